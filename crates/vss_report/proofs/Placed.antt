-- Items by their places.
use Rattle.std.proofs.Common.{◌≡◌, ◌<◌, ◌≤◌, ℕ, zero, suc, List, [], ◌∷◌, Some, All, length, get_or, slice_get, subst, sym, refl, ⊎_elim, ◌∙◌, arith}
use Rattle.std.proofs.lemmas.Bool.{cases_lt}
use Rattle.cell_net.specs.Labelled.{AllDiffer}

pub at_place : {X : Type 0} (xs : List X) (i : ℕ) (x : X) → slice_get xs i ≡ Some x → (i < length xs) × ((d : X) → get_or xs i d ≡ x)
at_place [] i x e = cc
at_place (y ∷ ys) zero x e = (omega arith, λ d. cc)
at_place (y ∷ ys) (suc i) x e = let at = at_place ys i x e in (omega arith, at.1)

pub some_at : {X : Type 0} (xs : List X) (i : ℕ) → i < length xs → (x : X) × (slice_get xs i ≡ Some x)
some_at [] i lt = absurd (omega arith)
some_at (y ∷ ys) zero lt = (y, refl)
some_at (y ∷ ys) (suc i) lt = some_at ys i (omega arith)

-- what holds of all holds of the one at a place
pub all_at : {X : Type 0} (P : X → Type 0) (xs : List X) (i : ℕ) (x : X) → All P xs → slice_get xs i ≡ Some x → P x
all_at P xs i x all e = let at = at_place xs i x e in subst P (at.1 x) (all i x at.0)

-- of items that differ, the same item stands at one place
pub one_place : {X : Type 0} (xs : List X) (i j : ℕ) (x : X) → AllDiffer xs → slice_get xs i ≡ Some x → slice_get xs j ≡ Some x → i ≡ j
one_place xs i j x differ e f =
    let at = at_place xs i x e in
    let also = at_place xs j x f in
    ⊎_elim
    (λ (h : i < j). absurd (differ i j x h also.0 (at.1 x ∙ sym (also.1 x))))
    (λ (h : j ≤ i). ⊎_elim
    (λ (g : j < i). absurd (differ j i x g at.0 (also.1 x ∙ sym (at.1 x))))
    (λ (g : i ≤ j). omega arith)
    (cases_lt j i))
    (cases_lt i j)
