-- The order of walks is strict, so what lists each walk once in order is one list.
use Rattle.std.proofs.Common.{◌≡◌, ◌<◌, inl, inr, ℕ, zero, suc, List, [], ◌∷◌, refl, sym, subst, arith}
use Rattle.std.specs.Prelude.{AllPairs, Contains, ◌↔◌}
use Rattle.vss_rows.proofs.JoinedLaws.{AllPairs-tail, AllPairs-head}
use Rattle.cell_net.specs.declared.ids.CellId.{CellId}
use Rattle.cell_net.specs.declared.parts.InstanceParts.{InstanceParts}
use Rattle.gap_clauses.specs.Walks.{Step, IsLess, IsWalkBefore, node_numbers}
use Rattle.gap_clauses.specs.Laws.{AreListedOnce}

pub not_less_itself : (xs : List ℕ) → ¬ IsLess xs xs
not_less_itself [] less = less
not_less_itself (x ∷ xs) less = elim less [ inl low ↦ omega arith | inr both ↦ not_less_itself xs both.1 ]

pub not_less_back : (xs ys : List ℕ) → IsLess xs ys → ¬ IsLess ys xs
not_less_back [] [] forth back = forth
not_less_back [] (y ∷ ys) forth back = back
not_less_back (x ∷ xs) [] forth back = forth
not_less_back (x ∷ xs) (y ∷ ys) forth back = elim forth [
  | inl low ↦ elim back [ inl high ↦ omega arith | inr again ↦ omega (arith, again.0) ]
  | inr both ↦ elim back [ inl high ↦ omega (arith, both.0) | inr again ↦ not_less_back xs ys both.1 again.1 ]
]

pub not_before_back : (one other : List Step) → IsWalkBefore one other → ¬ IsWalkBefore other one
unfolding IsWalkBefore
not_before_back one other forth back = elim forth [
  | inl low ↦ elim back [
    | inl high ↦ not_less_back _ _ low high
    | inr again ↦ not_less_itself (node_numbers one) (subst (IsLess (node_numbers one)) again.0 low)
  ]
  | inr both ↦ elim back [
    | inl high ↦ not_less_itself (node_numbers one) (subst (λ ns. IsLess ns (node_numbers one)) (sym both.0) high)
    | inr again ↦ not_less_back _ _ both.1 again.1
  ]
]

-- the heads of two such lists are one
same_heads : {X : Type 0} (R : X → X → Type 0) → ((x y : X) → R x y → ¬ R y x) → (x y : X) (xs ys : List X) → AllPairs R (x ∷ xs) → AllPairs R (y ∷ ys) → Contains (y ∷ ys) x → Contains (x ∷ xs) y → x ≡ y
same_heads R strict x y xs ys up vp (zero, within, here) there = sym here
same_heads R strict x y xs ys up vp (suc k, within, here) (zero, inside, there) = there
same_heads R strict x y xs ys up vp (suc k, within, here) (suc l, inside, there) = absurd (strict x y (AllPairs-head R x y xs up (l, omega arith, there)) (AllPairs-head R y x ys vp (k, omega arith, here)))

-- what comes after the head isn't the head
later : {X : Type 0} (R : X → X → Type 0) → ((x y : X) → R x y → ¬ R y x) → (x z : X) (ys : List X) → R x z → Contains (x ∷ ys) z → Contains ys z
later R strict x z ys after (zero, within, here) = absurd (let self : R z z = subst (λ w. R w z) here after in strict z z self self)
later R strict x z ys after (suc k, within, here) = (k, omega arith, here)

-- two lists in a strict order of the same items are one
same_lists : {X : Type 0} (R : X → X → Type 0) → ((x y : X) → R x y → ¬ R y x) → (xs ys : List X) → AllPairs R xs → AllPairs R ys → ((x : X) → Contains xs x ↔ Contains ys x) → xs ≡ ys
same_lists R strict [] [] up vp same = refl
same_lists R strict [] (y ∷ ys) up vp same = absurd (let there = (same y).1 (0, omega arith, refl) in let low : there.0 < 0 = there.1 in omega arith)
same_lists R strict (x ∷ xs) [] up vp same = absurd (let there = (same x).0 (0, omega arith, refl) in let low : there.0 < 0 = there.1 in omega arith)
same_lists R strict (x ∷ xs) (y ∷ ys) up vp same =
    let head : x ≡ y = same_heads R strict x y xs ys up vp ((same x).0 (0, omega arith, refl)) ((same y).1 (0, omega arith, refl)) in
    let tail : xs ≡ ys = same_lists R strict xs ys (AllPairs-tail R x xs up) (AllPairs-tail R y ys vp) (λ z. (
      λ there. later R strict x z ys (AllPairs-head R x z xs up there) (subst (λ w. Contains (w ∷ ys) z) (sym head) ((same z).0 (suc there.0, omega (arith, there.1), there.2))),
      λ there. later R strict y z xs (AllPairs-head R y z ys vp there) (subst (λ w. Contains (w ∷ xs) z) head ((same z).1 (suc there.0, omega (arith, there.1), there.2))),
    )) in
    cc

pub listed_once : (p : InstanceParts) (e f : CellId) → AreListedOnce p e f
listed_once p e f one other are also = same_lists IsWalkBefore not_before_back one other are.in_order also.in_order (λ w. (λ there. (also.each w).1 ((are.each w).0 there), λ there. (are.each w).1 ((also.each w).0 there)))
