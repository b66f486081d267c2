-- Why `sort_passages` does what its contract says.
use Rattle.std.proofs.Common.{rules}
use Rattle.std.proofs.lemmas.List.Sorted.{IsNonDecreasingBy-from_sort_by_key}
use Rattle.cell_net.specs.declared.passages.Passage.{Passage}
use Rattle.cell_net.proofs.passages.sort_passages.Goals as goal

pub returns-clause-rising : goal.returns-clause-rising
returns-clause-rising c =
    IsNonDecreasingBy-from_sort_by_key (λ (p : Passage). p.from) _ c.sort_unstable_by_key.ensures.sorted (λ a r f' h. search rules)
