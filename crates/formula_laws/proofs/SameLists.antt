-- Two lists in a strict order of the same items are one.
use Rattle.std.proofs.Common.{◌≡◌, ◌<◌, zero, suc, List, [], ◌∷◌, refl, sym, subst, arith}
use Rattle.std.specs.Prelude.{AllPairs, Contains, ◌↔◌}
use Rattle.vss_rows.proofs.JoinedLaws.{AllPairs-tail, AllPairs-head}

-- the heads of two such lists are one
same_heads : {X : Type 0} (R : X → X → Type 0) → ((x y : X) → R x y → ¬ R y x) → (x y : X) (xs ys : List X) → AllPairs R (x ∷ xs) → AllPairs R (y ∷ ys) → Contains (y ∷ ys) x → Contains (x ∷ xs) y → x ≡ y
same_heads R strict x y xs ys up vp (zero, within, here) there = sym here
same_heads R strict x y xs ys up vp (suc k, within, here) (zero, inside, there) = there
same_heads R strict x y xs ys up vp (suc k, within, here) (suc l, inside, there) = absurd (strict x y (AllPairs-head R x y xs up (l, omega arith, there)) (AllPairs-head R y x ys vp (k, omega arith, here)))

-- what comes after the head isn't the head
later : {X : Type 0} (R : X → X → Type 0) → ((x y : X) → R x y → ¬ R y x) → (x z : X) (ys : List X) → R x z → Contains (x ∷ ys) z → Contains ys z
later R strict x z ys after (zero, within, here) = absurd (let self : R z z = subst (λ w. R w z) here after in strict z z self self)
later R strict x z ys after (suc k, within, here) = (k, omega arith, here)

-- two lists in a strict order of the same items are one
pub same_lists : {X : Type 0} (R : X → X → Type 0) → ((x y : X) → R x y → ¬ R y x) → (xs ys : List X) → AllPairs R xs → AllPairs R ys → ((x : X) → Contains xs x ↔ Contains ys x) → xs ≡ ys
same_lists R strict [] [] up vp same = refl
same_lists R strict [] (y ∷ ys) up vp same = absurd (let there = (same y).1 (0, omega arith, refl) in let low : there.0 < 0 = there.1 in omega arith)
same_lists R strict (x ∷ xs) [] up vp same = absurd (let there = (same x).0 (0, omega arith, refl) in let low : there.0 < 0 = there.1 in omega arith)
same_lists R strict (x ∷ xs) (y ∷ ys) up vp same =
    let head : x ≡ y = same_heads R strict x y xs ys up vp ((same x).0 (0, omega arith, refl)) ((same y).1 (0, omega arith, refl)) in
    let tail : xs ≡ ys = same_lists R strict xs ys (AllPairs-tail R x xs up) (AllPairs-tail R y ys vp) (λ z. (
      λ there. later R strict x z ys (AllPairs-head R x z xs up there) (subst (λ w. Contains (w ∷ ys) z) (sym head) ((same z).0 (suc there.0, omega (arith, there.1), there.2))),
      λ there. later R strict y z xs (AllPairs-head R y z ys vp there) (subst (λ w. Contains (w ∷ xs) z) head ((same z).1 (suc there.0, omega (arith, there.1), there.2))),
    )) in
    cc
