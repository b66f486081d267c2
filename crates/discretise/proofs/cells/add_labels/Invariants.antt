-- What the loop of `add_labels` keeps from turn to turn.
use Rattle.std.proofs.Common.{◌≡◌, ◌++◌, map}
use Rattle.std.specs.List.{range_with_len}
use Rattle.discretise.specs.Cells.{label_in}
use Rattle.discretise.proofs.cells.add_labels.Given as goal

abbrev pub invariant-loop-index : goal.invariant-loop-index
invariant-loop-index l = l.labels.items ≡ l.initial.labels.items ++ map (label_in l.track) (range_with_len 0 l.index)
