-- Why `start_of` does what its contract says.
use Rattle.std.proofs.Common.{rules, ltb}
use Rattle.std.proofs.lemmas.List.Sorted.{IsPartitionPoint-from_clause, IsPartitionedBy-ltb}
use Rattle.cell_net.specs.declared.passages.Passage.{Passage}
use Rattle.cell_net.proofs.PassageLemmas.{splits_from_tests}
use Rattle.cell_net.proofs.passages.start_of.Goals as goal

pub returns-clause-split : goal.returns-clause-split
returns-clause-split c =
    splits_from_tests _ _ _ (IsPartitionPoint-from_clause (λ (p : Passage). ltb p.from c.args.end) _ _ c.partition_point.ensures.partitioned
    (IsPartitionedBy-ltb (λ (p : Passage). p.from) _ c.args.end c.requires) (λ a r f' h. search rules))
