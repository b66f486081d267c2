-- What the loop of `lasts_of` keeps from turn to turn.
use Rattle.sweep_table.specs.Ends.{ArePlacesBelow, last_cells}
use Rattle.sweep_table.proofs.ends.lasts_of.Given as goal

abbrev pub invariant-loop-place : goal.invariant-loop-place
invariant-loop-place l = ArePlacesBelow l.sweeps (last_cells l.train) l.place l.lasts.items
