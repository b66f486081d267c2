-- The units with lower numbers stand first.
use Rattle.std.proofs.Common.{rules, ltb, ◌<◌, ◌≤◌, ◌≡◌, ℕ, List, true, false, get_or, arith}
use Rattle.std.specs.List.Sorted.{IsPartitionPoint}
use Rattle.std.proofs.lemmas.Bool.Decides.{nat_tests}
use Rattle.std.proofs.lemmas.List.Sorted.{IsPartitionPoint-from_clause, IsPartitionedBy-ltb}
use Rattle.log_rebase.specs.declared.mark.UnitMark.{UnitMark}
use Rattle.log_rebase.proofs.number.count_below.Goals as goal

from_tests : (marks : List UnitMark) (n k : ℕ) → IsPartitionPoint (λ m. ltb m.id.0 n ≡ true) (λ m. ltb m.id.0 n ≡ false) marks k → IsPartitionPoint (λ m. m.id.0 < n) (λ m. n ≤ m.id.0) marks k
from_tests marks n k point = (
  λ i d low high. let t : ltb (get_or marks i d).id.0 n ≡ true = point.0 i d low high in grind (arith, nat_tests),
  λ i d low high. let t : ltb (get_or marks i d).id.0 n ≡ false = point.1 i d low high in grind (arith, nat_tests),
)

pub returns-clause-split : goal.returns-clause-split
returns-clause-split c =
    from_tests _ _ _ (IsPartitionPoint-from_clause (λ (m : UnitMark). ltb m.id.0 c.args.number) _ _ c.partition_point.ensures.partitioned
    (IsPartitionedBy-ltb (λ (m : UnitMark). m.id.0) _ c.args.number c.requires) (λ a r f' h. search rules))
