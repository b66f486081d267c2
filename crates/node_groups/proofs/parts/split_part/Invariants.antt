-- What the loop of `split_part` keeps from turn to turn.
use Rattle.node_groups.proofs.SplitLemmas.{OneGroupBelow}
use Rattle.node_groups.proofs.parts.split_part.Given as goal

abbrev pub invariant-loop-at : goal.invariant-loop-at
invariant-loop-at l = OneGroupBelow l.ends l.groups l.at
