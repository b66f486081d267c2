-- Why `sort_successions` does what its contract says.
use Rattle.std.proofs.Common.{rules}
use Rattle.std.proofs.lemmas.List.Sorted.{IsNonDecreasingBy-from_sort_by_key}
use Rattle.sweep_table.specs.Order.{directed_number}
use Rattle.sweep_table.specs.declared.successors.Succession.{Succession}
use Rattle.sweep_table.proofs.successors.sort_successions.Goals as goal

pub returns-clause-rising : goal.returns-clause-rising
returns-clause-rising c =
    IsNonDecreasingBy-from_sort_by_key (λ (s : Succession). directed_number s.after) _ c.sort_unstable_by_key.ensures.sorted (λ a r f' h. search rules)
