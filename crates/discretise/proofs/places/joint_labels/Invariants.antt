-- What the loop of `joint_labels` keeps from turn to turn.
use Rattle.std.proofs.Common.{◌≡◌, map, take}
use Rattle.discretise.specs.Places.{joint_label}
use Rattle.discretise.proofs.places.joint_labels.Given as goal

abbrev pub invariant-loop-at : goal.invariant-loop-at
invariant-loop-at l = l.labels.items ≡ map (joint_label l.net) (take l.at l.joints)
