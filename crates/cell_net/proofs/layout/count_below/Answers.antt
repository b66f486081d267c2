-- Why `count_below` does what its contract says.
use Rattle.std.proofs.Common.{rules, ltb}
use Rattle.std.proofs.lemmas.List.Sorted.{IsPartitionPoint-from_clause, IsPartitionedBy-ltb}
use Rattle.cell_net.specs.declared.ids.CandidateId.{CandidateId}
use Rattle.cell_net.proofs.LayoutLemmas.{below_from_tests, non_decreasing}
use Rattle.cell_net.proofs.layout.count_below.Goals as goal

pub returns-clause-split : goal.returns-clause-split
returns-clause-split c =
    below_from_tests _ _ _ (IsPartitionPoint-from_clause (λ (b : CandidateId). ltb b.0 c.args.id.0) _ _ c.partition_point.ensures.partitioned
    (IsPartitionedBy-ltb (λ (b : CandidateId). b.0) _ c.args.id.0 (non_decreasing _ c.requires)) (λ a r f' h. search rules))
