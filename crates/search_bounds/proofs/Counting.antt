-- A search that goes on past enough conflicts has a stretch that is too long.
use Rattle.std.proofs.Common.{◌≡◌, ℕ, zero, suc, ◌+◌, ◌-◌, ◌*◌, ◌^◌, ◌<◌, ◌≤◌, inl, inr, List, refl, arith}
use Rattle.std.specs.Prelude.{All, Some}
use Rattle.std.proofs.Math.Nat.{pow-suc}
use Rattle.std.proofs.Math.Pow.{pow_mono}
use Rattle.std.proofs.lemmas.Bool.{cases_lt}
use Rattle.sat_core.specs.declared.literal.Lit.{Lit}
use Rattle.sat_core.specs.Derivation.{AddsEmptyClause}
use Rattle.sat_core.specs.Search.{Event, search_of, IsDropPlace, AreNext, log_of, adds_in}
use Rattle.search_bounds.specs.Laws.{enough_conflicts, SearchesAreBounded}
use Rattle.search_bounds.proofs.Stretches.{IsAlong, fresh_stretch, stretch_is_short}

-- a power of two, times 2000, that is above a number and not far above it
record IsAbove (n : ℕ) : Type 0 where
  power : ℕ
  above : n < 2000 * 2 ^ power
  not_far : 2000 * 2 ^ power ≤ 2 * n + 2000

above : (n : ℕ) → IsAbove n
above zero = record { power = 0; above = omega arith; not_far = omega arith }
above (suc n) =
    let was = above n in
    let double : 2 ^ suc was.power ≡ 2 ^ was.power * 2 = pow-suc 2 was.power in
    elim (cases_lt (suc n) (2000 * 2 ^ was.power)) [
      | inl still ↦ record { power = was.power; above = still; not_far = omega (arith, was.not_far) }
      | inr reached ↦ record { power = suc was.power; above = omega (arith, was.above, double); not_far = omega (arith, was.above, double) }
    ]

-- no drop comes between two places that follow each other
none_between : (j n : ℕ) → 2000 * (2 ^ j - 1) < n → n < 2000 * (2 ^ suc j - 1) → ¬ IsDropPlace n
unfolding IsDropPlace
none_between j n low high (i, some, is) = elim (cases_lt j i) [
  | inl later ↦ let more : 2 ^ suc j ≤ 2 ^ i = pow_mono {i = suc j} {j = i} (omega arith) in omega arith
  | inr not_later ↦ let less : 2 ^ i ≤ 2 ^ j = pow_mono {i = i} {j = j} not_later in omega arith
]

bounded : (vars : ℕ) (formula : List (List Lit)) (events : List Event) → AreNext (search_of vars formula) events → All (λ step. ¬ AddsEmptyClause (Some step)) (log_of events)
    → (j : ℕ) → 3 ^ vars < 2000 * 2 ^ j → 2000 * 2 ^ j ≤ 2 * 3 ^ vars + 2000 → enough_conflicts vars ≤ adds_in (log_of events) → ⊥
bounded vars formula events next no_empty j over not_far reached =
    let double : 2 ^ suc j ≡ 2 ^ j * 2 = pow-suc 2 j in
    let some : 1 ≤ 2 ^ j = pow_mono {i = 0} {j = j} (omega arith) in
    let low : ℕ = 2000 * (2 ^ j - 1) in
    let high : ℕ = 2000 * (2 ^ suc j - 1) in
    let short : high ≤ low + 3 ^ vars = stretch_is_short vars low high (omega arith) (none_between j) events (search_of vars formula) refl next no_empty (begins low) (omega arith) in
    omega arith
  where
    begins : (low : ℕ) → IsAlong vars low (search_of vars formula)
    begins zero = inr (fresh_stretch vars 0 (search_of vars formula) refl)
    begins (suc low) = inl (omega arith)

pub searches_bounded : SearchesAreBounded
searches_bounded vars formula events next no_empty = elim (cases_lt (adds_in (log_of events)) (enough_conflicts vars)) [
  | inl fewer ↦ fewer
  | inr reached ↦ let power = above (3 ^ vars) in absurd (bounded vars formula events next no_empty power.power power.above power.not_far reached)
]
