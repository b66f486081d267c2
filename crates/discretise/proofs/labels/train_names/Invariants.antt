-- What the loop of `train_names` keeps from turn to turn.
use Rattle.std.proofs.Common.{◌≡◌, map, take}
use Rattle.discretise.proofs.labels.train_names.Given as goal

abbrev pub invariant-loop-at : goal.invariant-loop-at
invariant-loop-at l = l.names.items ≡ map (λ t. t.name) (take l.at l.timetable.trains)
