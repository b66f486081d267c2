-- What the loop of `add_joints` keeps from turn to turn.
use Rattle.std.proofs.Common.{◌≡◌, ◌++◌, map, take}
use Rattle.discretise.specs.Cells.{node}
use Rattle.discretise.proofs.places.add_joints.Given as goal

abbrev pub invariant-loop-at : goal.invariant-loop-at
invariant-loop-at l = l.nodes.items ≡ l.initial.nodes.items ++ map node (take l.at l.joints)
