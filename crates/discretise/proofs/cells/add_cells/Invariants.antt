-- What the loop of `add_cells` keeps from turn to turn.
use Rattle.std.proofs.Common.{◌≡◌, ◌++◌, map}
use Rattle.std.specs.List.{range_with_len}
use Rattle.discretise.specs.Cells.{cell_in}
use Rattle.discretise.proofs.cells.add_cells.Given as goal

abbrev pub invariant-loop-place : goal.invariant-loop-place
invariant-loop-place l = l.cells.items ≡ l.initial.cells.items ++ map (cell_in l.track) (range_with_len 0 l.place)
