-- What the loop of `flatten` keeps from turn to turn.
use Rattle.std.proofs.Common.{ℕ, ◌<◌, get_or}
use Rattle.node_groups.specs.Forest.{IsForest, IsRoot, JoinsAlike}
use Rattle.node_groups.proofs.forest.flatten.Given as goal

abbrev pub invariant-loop-item : goal.invariant-loop-item
invariant-loop-item l = record {
  forest : IsForest l.parents;
  alike : JoinsAlike l.initial.parents l.parents;
  flat : (k : ℕ) → k < l.item → IsRoot l.parents (get_or l.parents k 0);
}
