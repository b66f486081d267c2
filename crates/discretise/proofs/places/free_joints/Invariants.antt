-- What the loop of `free_joints` keeps from turn to turn.
use Rattle.std.specs.List.{range_with_len}
use Rattle.discretise.specs.Picks.{Picks}
use Rattle.discretise.specs.Places.{IsFreeJoint}
use Rattle.discretise.proofs.places.free_joints.Given as goal

abbrev pub invariant-loop-number : goal.invariant-loop-number
invariant-loop-number l = Picks (IsFreeJoint l.net) (range_with_len 0 l.number) l.joints.items
