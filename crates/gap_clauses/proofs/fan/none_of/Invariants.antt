-- What the loop of `none_of` keeps from turn to turn.
use Rattle.std.specs.Prelude.{◌≡◌, ℕ, List, [], All, length}
use Rattle.gap_clauses.proofs.fan.none_of.Given as goal

abbrev pub invariant-loop : goal.invariant-loop
invariant-loop l = (length l.lists.items ≡ l.counter) × All (λ (g : List ℕ). g ≡ []) l.lists.items
