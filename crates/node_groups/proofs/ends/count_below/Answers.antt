-- Why `count_below` does what its contract says.
use Rattle.std.proofs.Common.{rules, ltb}
use Rattle.std.proofs.lemmas.List.Sorted.{IsPartitionPoint-from_clause, IsPartitionedBy-ltb}
use Rattle.node_groups.specs.declared.ends.End.{End}
use Rattle.node_groups.proofs.StretchLemmas.{below_from_tests}
use Rattle.node_groups.proofs.ends.count_below.Goals as goal

pub returns-clause-split : goal.returns-clause-split
returns-clause-split c =
    below_from_tests _ _ _ (IsPartitionPoint-from_clause (λ (e : End). ltb e.node c.args.node) _ _ c.partition_point.ensures.partitioned
    (IsPartitionedBy-ltb (λ (e : End). e.node) _ c.args.node c.requires) (λ a r f' h. search rules))
