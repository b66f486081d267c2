-- What the loop of `add_cut_labels` keeps from turn to turn.
use Rattle.std.proofs.Common.{◌≡◌, ◌++◌, map}
use Rattle.std.specs.List.{range_with_len}
use Rattle.discretise.specs.Places.{cut_label}
use Rattle.discretise.proofs.places.add_cut_labels.Given as goal

abbrev pub invariant-loop-cut : goal.invariant-loop-cut
invariant-loop-cut l = l.labels.items ≡ l.initial.labels.items ++ map (cut_label l.timetable l.track) (range_with_len 0 l.cut)
