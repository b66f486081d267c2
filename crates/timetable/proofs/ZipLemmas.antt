-- Two lists in pairs.
use Rattle.std.proofs.Common.{◌≡◌, ◌+◌, ℕ, zero, suc, List, [], ◌∷◌, ◌++◌, take, Some, slice_get, refl, sym, ap, subst, ◌∙◌, arith}
use Rattle.std.specs.List.{AllZip}
use Rattle.std.proofs.lemmas.List.{take_more}
use Rattle.std.proofs.lemmas.Option.{get_or_from_slice_get, same_Some, slice_get_within}
use Rattle.vss_lists.specs.Breaks.{HoldsOfEach}

-- one more pair behind them
zip_push : {A B : Type 0} (R : A → B → Type 0) (xs : List A) (ys : List B) (x : A) (y : B) → AllZip R xs ys → R x y → AllZip R (xs ++ x ∷ []) (ys ++ y ∷ [])
zip_push R [] [] x y pairs also = (also, tt)
zip_push R [] (b ∷ ys) x y pairs also = absurd pairs
zip_push R (a ∷ xs) [] x y pairs also = absurd pairs
zip_push R (a ∷ xs) (b ∷ ys) x y pairs also = (pairs.0, zip_push R xs ys x y pairs.1 also)

-- the front of a list in pairs with another, with one more item of the list
pub zip_more : {A B : Type 0} (R : A → B → Type 0) (xs : List A) (ys zs : List B) (at : ℕ) (x : A) (y : B) → AllZip R (take at xs) ys
    → slice_get xs at ≡ Some x → zs ≡ ys ++ y ∷ [] → R x y → AllZip R (take (at + 1) xs) zs
zip_more R xs ys zs at x y pairs is grown also =
    let front : take (at + 1) xs ≡ take at xs ++ x ∷ [] = take_more xs at x (slice_get_within xs at x is) ∙ ap (λ z. take at xs ++ z ∷ []) (get_or_from_slice_get xs at x x is) in
    subst (AllZip R (take (at + 1) xs)) (sym grown) (subst (λ front. AllZip R front (ys ++ y ∷ [])) (sym front) (zip_push R (take at xs) ys x y pairs also))

-- what an item of the second list is paired with
pub zip_at : {A B : Type 0} (R : A → B → Type 0) (xs : List A) (ys : List B) → AllZip R xs ys → (k : ℕ) (y : B) → slice_get ys k ≡ Some y
    → (x : A) × (slice_get xs k ≡ Some x) × R x y
zip_at R [] [] pairs k y at = absurd (grind arith)
zip_at R [] (z ∷ ys) pairs k y at = absurd pairs
zip_at R (x ∷ xs) [] pairs k y at = absurd pairs
zip_at R (x ∷ xs) (z ∷ ys) pairs zero y at = (x, refl, subst (R x) (same_Some z y at) pairs.0)
zip_at R (x ∷ xs) (z ∷ ys) pairs (suc k) y at = zip_at R xs ys pairs.1 k y at

-- what an item of the first list is paired with
zip_from : {A B : Type 0} (R : A → B → Type 0) (xs : List A) (ys : List B) → AllZip R xs ys → (k : ℕ) (x : A) → slice_get xs k ≡ Some x → (y : B) × R x y
zip_from R [] [] pairs k x at = absurd (grind arith)
zip_from R [] (y ∷ ys) pairs k x at = absurd pairs
zip_from R (w ∷ xs) [] pairs k x at = absurd pairs
zip_from R (w ∷ xs) (y ∷ ys) pairs zero x at = (y, subst (λ v. R v y) (same_Some w x at) pairs.0)
zip_from R (w ∷ xs) (y ∷ ys) pairs (suc k) x at = zip_from R xs ys pairs.1 k x at

-- what each pair shows of its first item
pub zip_each : {A B : Type 0} (R : A → B → Type 0) (Q : A → Type 0) → ((x : A) (y : B) → R x y → Q x) → (xs : List A) (ys : List B) → AllZip R xs ys → HoldsOfEach (λ place x. Q x) xs
zip_each R Q shows xs ys pairs = record {
  at_each = λ k x at. let pair = zip_from R xs ys pairs k x at in shows x pair.0 pair.1;
}

-- a list has one list of pairs, where an item has one
pub zip_same : {A B : Type 0} (R : A → B → Type 0) → ((x : A) (y z : B) → R x y → R x z → y ≡ z) → (xs : List A) (ys zs : List B) → AllZip R xs ys → AllZip R xs zs → ys ≡ zs
zip_same R one [] [] [] first second = refl
zip_same R one [] [] (z ∷ zs) first second = absurd second
zip_same R one [] (y ∷ ys) zs first second = absurd first
zip_same R one (x ∷ xs) [] zs first second = absurd first
zip_same R one (x ∷ xs) (y ∷ ys) [] first second = absurd second
zip_same R one (x ∷ xs) (y ∷ ys) (z ∷ zs) first second =
    ap (λ head. head ∷ ys) (one x y z first.0 second.0) ∙ ap (λ rest. z ∷ rest) (zip_same R one xs ys zs first.1 second.1)
