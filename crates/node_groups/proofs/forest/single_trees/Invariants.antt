-- What the loop of `single_trees` keeps from turn to turn.
use Rattle.std.proofs.Common.{◌≡◌, length}
use Rattle.node_groups.specs.Forest.{AreAllRoots}
use Rattle.node_groups.proofs.forest.single_trees.Given as goal

abbrev pub invariant-loop-item : goal.invariant-loop-item
invariant-loop-item l = record { len : length l.parents.items ≡ l.item; roots : AreAllRoots l.parents.items }
