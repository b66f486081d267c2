-- What the loop of `add_node_joins` keeps from turn to turn.
use Rattle.std.proofs.Common.{take}
use Rattle.discretise.specs.Joins.{AddsJoins, node_pairs}
use Rattle.discretise.proofs.joins.add_node_joins.Given as goal

abbrev pub invariant-loop-node : goal.invariant-loop-node
invariant-loop-node l = AddsJoins l.net (node_pairs (take l.node l.ends)) l.initial.joins.items l.joins.items
