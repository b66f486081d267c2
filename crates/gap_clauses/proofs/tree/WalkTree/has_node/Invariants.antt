-- What the loop of `WalkTree::has_node` keeps from turn to turn.
use Rattle.std.specs.Prelude.{◌≡◌, ◌<◌, length}
use Rattle.gap_clauses.specs.Fans.{has_node, walk_at}
use Rattle.gap_clauses.proofs.tree.WalkTree.has_node.Given as goal

abbrev pub invariant-loop-at : goal.invariant-loop-at
invariant-loop-at l = (l.at < length l.self) × (has_node l.node (walk_at l.self l.place) ≡ has_node l.node (walk_at l.self l.at))

abbrev pub decreases-loop-at : goal.decreases-loop-at
decreases-loop-at l = l.at
