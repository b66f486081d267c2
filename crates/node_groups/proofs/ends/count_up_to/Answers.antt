-- Why `count_up_to` does what its contract says.
use Rattle.std.proofs.Common.{rules, leb}
use Rattle.std.proofs.lemmas.List.Sorted.{IsPartitionPoint-from_clause, IsPartitionedBy-leb}
use Rattle.node_groups.specs.declared.ends.End.{End}
use Rattle.node_groups.proofs.StretchLemmas.{up_to_from_tests}
use Rattle.node_groups.proofs.ends.count_up_to.Goals as goal

pub returns-clause-split : goal.returns-clause-split
returns-clause-split c =
    up_to_from_tests _ _ _ (IsPartitionPoint-from_clause (λ (e : End). leb e.node c.args.node) _ _ c.partition_point.ensures.partitioned
    (IsPartitionedBy-leb (λ (e : End). e.node) _ c.args.node c.requires) (λ a r f' h. search rules))
