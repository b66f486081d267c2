-- Why `count_below` does what its contract says.
use Rattle.std.proofs.Common.{rules, ltb}
use Rattle.std.proofs.lemmas.List.Sorted.{IsPartitionPoint-from_clause, IsPartitionedBy-ltb}
use Rattle.cell_net.specs.declared.ids.NodeId.{NodeId}
use Rattle.gap_clauses.proofs.MarkLemmas.{nodes_rise, point_from_tests}
use Rattle.gap_clauses.proofs.candidates.count_below.Goals as goal

pub returns-clause-split : goal.returns-clause-split
returns-clause-split c =
    point_from_tests _ _ _ (IsPartitionPoint-from_clause (λ (n : NodeId). ltb n.0 c.args.node.0) _ _ c.partition_point.ensures.partitioned
    (IsPartitionedBy-ltb (λ (n : NodeId). n.0) _ c.args.node.0 (nodes_rise _ c.requires)) (λ a r f' h. search rules))
