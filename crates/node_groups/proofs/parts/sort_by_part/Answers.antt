-- Why `sort_by_part` does what its contract says.
use Rattle.std.proofs.Common.{rules}
use Rattle.std.proofs.lemmas.List.Sorted.{IsNonDecreasingBy-from_sort_by_key}
use Rattle.node_groups.specs.declared.ends.End.{End}
use Rattle.node_groups.proofs.parts.sort_by_part.Goals as goal

pub returns-clause-rising : goal.returns-clause-rising
returns-clause-rising c =
    IsNonDecreasingBy-from_sort_by_key (λ (e : End). e.part) _ c.sort_unstable_by_key.ensures.sorted (λ a r f' h. search rules)
