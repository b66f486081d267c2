-- Items of lists by their places.
use Rattle.std.proofs.Common.{◌≡◌, ◌≢◌, ◌<◌, ◌≤◌, ◌+◌, ◌⊎◌, inl, inr, ℕ, zero, suc, List, [], ◌∷◌, ◌++◌, length, map, take, set, Some, slice_get, refl, sym, ap, subst, ◌∙◌, arith}
use Rattle.std.specs.List.{Contains}
use Rattle.std.proofs.lemmas.Bool.{cases_eq}
use Rattle.vss_lists.specs.Breaks.{HoldsBelow, HoldsOfEach}
use Rattle.std.proofs.lemmas.Option.{slice_get-get_or, get_or_from_slice_get, slice_get_within, slice_get-map, same_Some}
use Rattle.std.specs.Prelude.{option_map}

-- the item at a place is in the list, and an item in the list is at a place
pub contains_at : {X : Type 0} (xs : List X) (k : ℕ) (x : X) → slice_get xs k ≡ Some x → Contains xs x
contains_at xs k x is = (k, slice_get_within xs k x is, get_or_from_slice_get xs k x x is)

pub place_of : {X : Type 0} (xs : List X) (x : X) → Contains xs x → (k : ℕ) × (slice_get xs k ≡ Some x)
place_of xs x (k, within, is) = (k, slice_get-get_or xs k x within ∙ ap Some is)

-- the item at a place of a list that is mapped
pub map_at : {X Y : Type 0} (f : X → Y) (xs : List X) (k : ℕ) (x : X) → slice_get xs k ≡ Some x → slice_get (map f xs) k ≡ Some (f x)
map_at f xs k x is = slice_get-map f xs k ∙ ap (option_map f) is

-- what is at a place of a mapped list is what an item is mapped to
pub mapped_at : {X Y : Type 0} (f : X → Y) (xs : List X) (k : ℕ) (y : Y) → slice_get (map f xs) k ≡ Some y → (x : X) × (slice_get xs k ≡ Some x) × (f x ≡ y)
mapped_at f [] k y is = absurd (grind arith)
mapped_at f (x ∷ xs) zero y is = (x, refl, same_Some (f x) y is)
mapped_at f (x ∷ xs) (suc k) y is = mapped_at f xs k y is

-- a list where one place is written
pub set_here : {X : Type 0} (xs : List X) (i : ℕ) (y : X) → i < length xs → slice_get (set xs i y) i ≡ Some y
set_here [] i y within = absurd (omega arith)
set_here (x ∷ xs) zero y within = refl
set_here (x ∷ xs) (suc i) y within = set_here xs i y (omega arith)

pub set_other : {X : Type 0} (xs : List X) (i k : ℕ) (y : X) → k ≢ i → slice_get (set xs i y) k ≡ slice_get xs k
set_other [] i k y other = refl
set_other (x ∷ xs) zero zero y other = absurd (other refl)
set_other (x ∷ xs) zero (suc k) y other = refl
set_other (x ∷ xs) (suc i) zero y other = refl
set_other (x ∷ xs) (suc i) (suc k) y other = set_other xs i k y (λ same. other (ap suc same))

-- the front of a list has the list's items
pub front_at : {X : Type 0} (xs : List X) (n k : ℕ) (x : X) → slice_get (take n xs) k ≡ Some x → (k < n) × (slice_get xs k ≡ Some x)
front_at [] zero k x is = absurd (grind arith)
front_at [] (suc n) k x is = absurd (grind arith)
front_at (y ∷ xs) zero k x is = absurd (grind arith)
front_at (y ∷ xs) (suc n) zero x is = (omega arith, is)
front_at (y ∷ xs) (suc n) (suc k) x is = let rest = front_at xs n k x is in (omega arith, rest.1)

pub at_front : {X : Type 0} (xs : List X) (n k : ℕ) (x : X) → k < n → slice_get xs k ≡ Some x → slice_get (take n xs) k ≡ Some x
at_front [] n k x before is = absurd (grind arith)
at_front (y ∷ xs) zero k x before is = absurd (omega arith)
at_front (y ∷ xs) (suc n) zero x before is = is
at_front (y ∷ xs) (suc n) (suc k) x before is = at_front xs n k x (omega arith) is

-- a rule that holds before a place and at it
pub holds_more : {X : Type 0} (holds : ℕ → X → Type 0) (xs : List X) (i : ℕ) (x : X) → HoldsBelow holds xs i → slice_get xs i ≡ Some x → holds i x → HoldsBelow holds xs (i + 1)
holds_more holds xs i x before is here k y low there = elim (cases_eq k i) [
  | inl same ↦
      let one : x ≡ y = same_Some x y (sym is ∙ subst (λ j. slice_get xs j ≡ Some y) same there) in
      subst (λ j. holds j y) (sym same) (subst (holds i) one here)
  | inr other ↦ before k y (omega arith) there
]

-- a rule that holds before each place
pub holds_all : {X : Type 0} (holds : ℕ → X → Type 0) (xs : List X) (i : ℕ) → length xs ≤ i → HoldsBelow holds xs i → HoldsOfEach holds xs
holds_all holds xs i past before = record {
  at_each = λ k x is. let within : k < length xs = slice_get_within xs k x is in before k x (omega arith) is;
}

-- one more item stands behind the others
pub push_at : {X : Type 0} (xs : List X) (y : X) (k : ℕ) (z : X) → slice_get (xs ++ y ∷ []) k ≡ Some z → (slice_get xs k ≡ Some z) ⊎ ((k ≡ length xs) × (y ≡ z))
push_at [] y zero z is = inr (refl, same_Some y z is)
push_at [] y (suc k) z is = absurd (grind arith)
push_at (x ∷ xs) y zero z is = inl is
push_at (x ∷ xs) y (suc k) z is = elim (push_at xs y k z is) [ inl before ↦ inl before | inr here ↦ inr (omega (arith, here.0), here.1) ]

-- the same, where what is at the place keeps the rule
pub holds_next : {X : Type 0} (holds : ℕ → X → Type 0) (xs : List X) (i : ℕ) → HoldsBelow holds xs i → ((x : X) → slice_get xs i ≡ Some x → holds i x) → HoldsBelow holds xs (i + 1)
holds_next holds xs i before here k y low there = elim (cases_eq k i) [
  | inl same ↦ subst (λ j. holds j y) (sym same) (here y (subst (λ j. slice_get xs j ≡ Some y) same there))
  | inr other ↦ before k y (omega arith) there
]

-- something stands at a place within a list
pub there_is : {X : Type 0} (xs : List X) (k : ℕ) → k < length xs → (x : X) × (slice_get xs k ≡ Some x)
there_is [] k within = absurd (omega arith)
there_is (x ∷ xs) zero within = (x, refl)
there_is (x ∷ xs) (suc k) within = there_is xs k (omega arith)
