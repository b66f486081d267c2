-- What the loop of `track_names` keeps from turn to turn.
use Rattle.std.proofs.Common.{◌≡◌, map, take}
use Rattle.discretise.proofs.labels.track_names.Given as goal

abbrev pub invariant-loop-at : goal.invariant-loop-at
invariant-loop-at l = l.names.items ≡ map (λ t. t.name) (take l.at l.net.tracks)
