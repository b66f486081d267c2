-- What the loop of `place_labels` keeps from turn to turn.
use Rattle.std.proofs.Common.{◌≡◌, take}
use Rattle.discretise.specs.Places.{place_labels}
use Rattle.discretise.proofs.places.place_labels.Given as goal

abbrev pub invariant-loop-at : goal.invariant-loop-at
invariant-loop-at l = l.labels.items ≡ place_labels l.net l.timetable l.joints (take l.at l.tracks)
