-- What the loop of `firsts_of` keeps from turn to turn.
use Rattle.sweep_table.specs.Ends.{ArePlacesBelow, first_cells}
use Rattle.sweep_table.proofs.ends.firsts_of.Given as goal

abbrev pub invariant-loop-place : goal.invariant-loop-place
invariant-loop-place l = ArePlacesBelow l.sweeps (first_cells l.train) l.place l.firsts.items
