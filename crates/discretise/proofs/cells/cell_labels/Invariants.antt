-- What the loop of `cell_labels` keeps from turn to turn.
use Rattle.std.proofs.Common.{◌≡◌, take}
use Rattle.discretise.specs.Cells.{cell_labels}
use Rattle.discretise.proofs.cells.cell_labels.Given as goal

abbrev pub invariant-loop-at : goal.invariant-loop-at
invariant-loop-at l = l.labels.items ≡ cell_labels (take l.at l.tracks)
