-- What the loop of `ends_by_node` keeps from turn to turn.
use Rattle.std.specs.Prelude.{take}
use Rattle.discretise.specs.Joins.{AreEndsByNode}
use Rattle.discretise.proofs.ends.ends_by_node.Given as goal

abbrev pub invariant-loop-at : goal.invariant-loop-at
invariant-loop-at l = AreEndsByNode l.nodes (take l.at l.tracks) l.rows.items
