-- What the loop of `join_ends` keeps from turn to turn.
use Rattle.node_groups.proofs.GroupLemmas.{JoinedSoFar}
use Rattle.node_groups.proofs.groups.join_ends.Given as goal

abbrev pub invariant-loop-at : goal.invariant-loop-at
invariant-loop-at l = JoinedSoFar l.ends l.barriers l.parents l.at
