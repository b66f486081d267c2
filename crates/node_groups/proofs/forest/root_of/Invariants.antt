-- What the loop of `root_of` keeps from turn to turn.
use Rattle.std.proofs.Common.{◌<◌, length}
use Rattle.node_groups.specs.Forest.{IsForest, Joined, JoinsAlike, KeepsRoots}
use Rattle.node_groups.proofs.forest.root_of.Given as goal

abbrev pub invariant-loop-parents : goal.invariant-loop-parents
invariant-loop-parents l = record {
  forest : IsForest l.parents;
  within : l.at < length l.parents;
  alike : JoinsAlike l.initial.parents l.parents;
  roots : KeepsRoots l.initial.parents l.parents;
  reached : Joined l.parents l.item l.at;
}

abbrev pub decreases-loop-parents : goal.decreases-loop-parents
decreases-loop-parents l = l.at
