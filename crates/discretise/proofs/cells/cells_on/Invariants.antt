-- What the loop of `cells_on` keeps from turn to turn.
use Rattle.std.proofs.Common.{◌≡◌, take}
use Rattle.discretise.specs.Cells.{cells_on}
use Rattle.discretise.proofs.cells.cells_on.Given as goal

abbrev pub invariant-loop-at : goal.invariant-loop-at
invariant-loop-at l = l.cells.items ≡ cells_on (take l.at l.tracks)
