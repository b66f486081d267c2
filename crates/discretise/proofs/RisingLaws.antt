-- Lists whose numbers rise within bounds.
use Rattle.std.proofs.Common.{◌≡◌, ◌+◌, ◌<◌, ◌≤◌, inl, inr, ℕ, zero, suc, List, [], ◌∷◌, ◌++◌, map, Some, slice_get, refl, sym, ap, subst, arith}
use Rattle.std.specs.List.{range_with_len}
use Rattle.std.proofs.lemmas.Option.{same_Some}
use Rattle.cell_net.specs.Borders.{IsAboveLast}
use Rattle.discretise.specs.Picks.{Picks}

-- from the one number on, below the other, each above the one before it
abbrev pub RisesTo : {X : Type 0} → (X → ℕ) → ℕ → ℕ → List X → Type 0
RisesTo number low high [] = low ≤ high
RisesTo number low high (x ∷ xs) = (low ≤ number x) × RisesTo number (number x + 1) high xs

module _ {X : Type 0} (number : X → ℕ) where
  pub rises_lower : (low lower high : ℕ) (xs : List X) → lower ≤ low → RisesTo number low high xs → RisesTo number lower high xs
  rises_lower low lower high [] below rises = omega arith
  rises_lower low lower high (x ∷ xs) below rises = (omega (arith, rises.0), rises.1)

  pub rises_both : (low mid high : ℕ) (xs ys : List X) → RisesTo number low mid xs → RisesTo number mid high ys → RisesTo number low high (xs ++ ys)
  rises_both low mid high [] ys rises more = rises_lower mid low high ys rises more
  rises_both low mid high (x ∷ xs) ys rises more = (rises.0, rises_both (number x + 1) mid high xs ys rises.1 more)

  pub rises_within : (low high : ℕ) (xs : List X) → RisesTo number low high xs → (k : ℕ) (x : X) → slice_get xs k ≡ Some x → (low ≤ number x) × (number x < high)
  rises_within low high [] rises k x is = absurd (grind arith)
  rises_within low high (y ∷ ys) rises zero x is =
      let top = rises_top (number y + 1) high ys rises.1 in
      let same : number y ≡ number x = ap number (same_Some y x is) in
      (omega (arith, rises.0), omega arith)
    where
      rises_top : (low high : ℕ) (xs : List X) → RisesTo number low high xs → low ≤ high
      rises_top low high [] rises = rises
      rises_top low high (x ∷ xs) rises = let rest = rises_top (number x + 1) high xs rises.1 in omega (arith, rises.0)
  rises_within low high (y ∷ ys) rises (suc k) x is =
      let rest = rises_within (number y + 1) high ys rises.1 k x is in
      (omega (arith, rises.0, rest.0), rest.1)

  pub rises_next : (low high : ℕ) (xs : List X) → RisesTo number low high xs → (k : ℕ) (x y : X) → slice_get xs k ≡ Some x → slice_get xs (suc k) ≡ Some y → number x < number y
  rises_next low high [] rises k x y is next = absurd (grind arith)
  rises_next low high (z ∷ zs) rises zero x y is next =
      let above = rises_within (number z + 1) high zs rises.1 zero y next in
      let same : number z ≡ number x = ap number (same_Some z x is) in
      omega (arith, above.0)
  rises_next low high (z ∷ zs) rises (suc k) x y is next = rises_next (number z + 1) high zs rises.1 k x y is next

  pub rises_above : (low high : ℕ) (xs : List X) → RisesTo number low high xs → (k : ℕ) (x : X) → slice_get xs k ≡ Some x → IsAboveLast number xs k x
  rises_above low high xs rises k x is before b next there =
      rises_next low high xs rises before b x there (subst (λ n. slice_get xs n ≡ Some x) (let same : k ≡ suc before = omega arith in same) is)

-- numbers in a row, each made an item
pub rises_row : {X : Type 0} (number : X → ℕ) (f : ℕ → X) (base : ℕ) → ((k : ℕ) → number (f k) ≡ base + k) → (first n : ℕ) → RisesTo number (base + first) (base + first + n) (map f (range_with_len first n))
rises_row number f base each first zero = omega arith
rises_row number f base each first (suc n) =
    let own : number (f first) ≡ base + first = each first in
    let rest : RisesTo number (base + (first + 1)) (base + (first + 1) + n) (map f (range_with_len (first + 1) n)) = rises_row number f base each (first + 1) n in (
      omega arith,
      subst (λ m. RisesTo number m (base + first + suc n) (map f (range_with_len (first + 1) n))) (let same : base + (first + 1) ≡ number (f first) + 1 = omega arith in same)
          (subst (λ m. RisesTo number (base + (first + 1)) m (map f (range_with_len (first + 1) n))) (let same : base + (first + 1) + n ≡ base + first + suc n = omega arith in same) rest),
    )

-- and what is picked of them
pub rises_picked : {X : Type 0} (number : X → ℕ) (f : ℕ → X) → ((k : ℕ) → number (f k) ≡ k) → (holds : ℕ → Type 0) (first n : ℕ) (picked : List ℕ) → Picks holds (range_with_len first n) picked → RisesTo number first (first + n) (map f picked)
rises_picked number f each holds first zero picked none = subst (λ xs. RisesTo number first (first + 0) (map f xs)) (sym none) (omega arith)
rises_picked number f each holds first (suc n) picked picks = elim picks [
  | inl here ↦
      let own : number (f first) ≡ first = each first in
      let rest : RisesTo number (first + 1) (first + 1 + n) (map f here.1) = rises_picked number f each holds (first + 1) n here.1 here.3 in
      subst (λ xs. RisesTo number first (first + suc n) (map f xs)) (sym here.2) (
        omega arith,
        subst (λ m. RisesTo number m (first + suc n) (map f here.1)) (let same : first + 1 ≡ number (f first) + 1 = omega arith in same)
            (subst (λ m. RisesTo number (first + 1) m (map f here.1)) (let same : first + 1 + n ≡ first + suc n = omega arith in same) rest),
      )
  | inr not ↦
      let rest : RisesTo number (first + 1) (first + 1 + n) (map f picked) = rises_picked number f each holds (first + 1) n picked not.1 in
      rises_lower number (first + 1) first (first + suc n) (map f picked) (omega arith)
      (subst (λ m. RisesTo number (first + 1) m (map f picked)) (let same : first + 1 + n ≡ first + suc n = omega arith in same) rest)
]

-- rising numbers are all different
pub rises_one : {X : Type 0} (number : X → ℕ) (low high : ℕ) (xs : List X) → RisesTo number low high xs → (i j : ℕ) (x y : X) → slice_get xs i ≡ Some x → slice_get xs j ≡ Some y → number x ≡ number y → i ≡ j
rises_one number low high [] rises i j x y is also same = absurd (grind arith)
rises_one number low high (z ∷ zs) rises zero zero x y is also same = refl
rises_one number low high (z ∷ zs) rises zero (suc j) x y is also same =
    let above = rises_within number (number z + 1) high zs rises.1 j y also in
    let first : number z ≡ number x = ap number (same_Some z x is) in
    absurd (omega (arith, above.0))
rises_one number low high (z ∷ zs) rises (suc i) zero x y is also same =
    let above = rises_within number (number z + 1) high zs rises.1 i x is in
    let first : number z ≡ number y = ap number (same_Some z y also) in
    absurd (omega (arith, above.0))
rises_one number low high (z ∷ zs) rises (suc i) (suc j) x y is also same = ap suc (rises_one number (number z + 1) high zs rises.1 i j x y is also same)
