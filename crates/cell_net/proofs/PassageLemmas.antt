-- On the index of joins by cell end.
use Rattle.std.proofs.Common.{◌≡◌, ◌+◌, ◌*◌, ◌<◌, ◌≤◌, ◌⊎◌, ℕ, List, [], ◌∷◌, ◌++◌, length, ltb, true, false, get_or, Contains, Any, arith, refl, sym, subst, ap, below_more, length-append, inl, inr}
use Rattle.std.proofs.lemmas.Bool.Decides.{nat_tests}
use Rattle.std.proofs.lemmas.List.{get_or_append_left, get_or_default}
use Rattle.std.proofs.lemmas.List.Elements.{Contains-append_left, Contains-push, Contains-push_cases}
use Rattle.std.proofs.Math.Seq.{get_or-append_seam}
use Rattle.std.specs.List.Sorted.{IsPartitionPoint, IsPermutation}
use Rattle.std.proofs.lemmas.List.Sorted.{Contains-permutation, IsPermutation-sym}
use Rattle.cell_net.specs.Space.{Pairs}
use Rattle.cell_net.specs.Passages.{Splits, AreStarts, ArePassagesOf, passage_between, end_place, end_number}
use Rattle.cell_net.specs.declared.cells.End.{End}
use Rattle.cell_net.specs.declared.cells.End.TheVariants.{Low, High}
use Rattle.cell_net.specs.declared.cells.CellEnd.{CellEnd}
use Rattle.cell_net.specs.declared.cells.JoinSpec.{JoinSpec}
use Rattle.cell_net.specs.declared.passages.Passage.{Passage}

pub splits_from_tests : (ps : List Passage) (e n : ℕ) → IsPartitionPoint (λ p. ltb p.from e ≡ true) (λ p. ltb p.from e ≡ false) ps n → Splits ps e n
splits_from_tests ps e n point = (
  λ k d low high. let t : ltb (get_or ps k d).from e ≡ true = point.0 k d low high in grind (arith, nat_tests),
  λ k d low high. let t : ltb (get_or ps k d).from e ≡ false = point.1 k d low high in grind (arith, nat_tests),
)

-- one more start at the end
pub starts_push : (ps : List Passage) (starts : List ℕ) (n : ℕ) → AreStarts ps starts → n ≤ length ps → Splits ps (length starts) n → AreStarts ps (starts ++ n ∷ [])
starts_push ps starts n before within split =
    let len : length (starts ++ n ∷ []) ≡ length starts + 1 = length-append starts (n ∷ []) in
    let old : (k : ℕ) → k < length starts → get_or (starts ++ n ∷ []) k 0 ≡ get_or starts k 0 = λ k h. get_or_append_left starts (n ∷ []) 0 k h in
    let new : get_or (starts ++ n ∷ []) (length starts) 0 ≡ n = get_or-append_seam starts n [] 0 in
    record {
      within = λ e lt. below_more (λ k. get_or (starts ++ n ∷ []) k 0 ≤ length ps) (length starts)
          (λ k h. rw (old k h) (before.within k h)) (rw new within) e (omega arith);
      split = λ e lt. below_more (λ k. Splits ps k (get_or (starts ++ n ∷ []) k 0)) (length starts)
          (λ k h. rw (old k h) (before.split k h)) (rw new split) e (omega arith);
    }

-- the ends have different places
end_number-below : (a b : ℕ) (x y : End) → 2 * a + end_number x ≡ 2 * b + end_number y → (a ≡ b) × (x ≡ y)
end_number-below a b Low Low h = (omega arith, refl)
end_number-below a b Low High h = absurd (omega arith)
end_number-below a b High Low h = absurd (omega arith)
end_number-below a b High High h = (omega arith, refl)

pub end_place-same : (e f : CellEnd) → end_place e ≡ end_place f → e ≡ f
end_place-same e f h = let both = end_number-below e.cell.0 f.cell.0 e.end f.end h in λ i. record { cell = record { 0 = both.0 i }; end = both.1 i }

same_passage : (p q : Passage) → p.from ≡ q.from → p.to ≡ q.to → p ≡ q
same_passage p q from to = λ i. record { from = from i; to = to i }

-- a passage of the range that belongs to an end
pub found_in_range : (ps : List Passage) (starts : List ℕ) (e k : ℕ) (d p : Passage) → AreStarts ps starts → e + 1 < length starts →
    get_or starts e 0 ≤ k → k < get_or starts (e + 1) 0 → p.from ≡ e → (get_or ps k d).to ≡ p.to → Contains ps p
found_in_range ps starts e k d p index within low high from to =
    let bound : get_or starts (e + 1) 0 ≤ length ps = index.within (e + 1) within in
    let below : (get_or ps k p).from < e + 1 = (index.split (e + 1) within).0 k p (omega arith) high in
    let above : e ≤ (get_or ps k p).from = (index.split e (omega arith)).1 k p low (omega arith) in
    let same : (get_or ps k p).from ≡ p.from = omega arith in
    let default : get_or ps k d ≡ get_or ps k p = get_or_default ps k d p (omega arith) in
    let to' : (get_or ps k p).to ≡ p.to = cc in
    (k, omega arith, same_passage (get_or ps k p) p same to')

-- a passage that is there stands in the range that belongs to its end
pub is_in_range : (ps : List Passage) (starts : List ℕ) (e : ℕ) (p : Passage) → AreStarts ps starts → e + 1 < length starts → p.from ≡ e → Contains ps p →
    (k : ℕ) × (get_or starts e 0 ≤ k) × (k < get_or starts (e + 1) 0) × (get_or ps k p ≡ p)
is_in_range ps starts e p index within from there =
    let k : ℕ = there.0 in
    let is : get_or ps k p ≡ p = there.2 in
    let same : (get_or ps k p).from ≡ e = cc in
    let not_before : k < get_or starts e 0 → (get_or ps k p).from < e = λ h. (index.split e (omega arith)).0 k p (omega arith) h in
    let not_after : get_or starts (e + 1) 0 ≤ k → e + 1 ≤ (get_or ps k p).from = λ h. (index.split (e + 1) within).1 k p h there.1 in
    (k, grind arith, grind arith, is)

-- a rule that some item keeps, in a list with one item more
any_before : {X : Type 0} (P : X → Type 0) (xs : List X) (y : X) → Any P xs → Any P (xs ++ y ∷ [])
any_before P xs y (k, x, within, is, kept) = let there = Contains-append_left xs (y ∷ []) x (k, within, is) in (there.0, x, there.1, there.2, kept)

any_last : {X : Type 0} (P : X → Type 0) (xs : List X) (y : X) → P y → Any P (xs ++ y ∷ [])
any_last P xs y kept = let there = Contains-push xs y in (there.0, y, there.1, there.2, kept)

any_cases : {X : Type 0} (P : X → Type 0) (xs : List X) (y : X) → Any P (xs ++ y ∷ []) → Any P xs ⊎ P y
any_cases {X} P xs y (k, x, within, is, kept) =
    elim (Contains-push_cases xs y x (k, within, is)) [ inl there ↦ inl (there.0, x, there.1, there.2, kept) | inr same ↦ inr (subst P (sym same) kept) ]

-- both directions of one join more
pub both_push : (joins : List JoinSpec) (j : JoinSpec) (ps : List Passage) → ArePassagesOf joins ps →
    ArePassagesOf (joins ++ j ∷ []) ((ps ++ passage_between j.one j.other ∷ []) ++ passage_between j.other j.one ∷ [])
both_push joins j ps before one other =
    let p : Passage = passage_between one other in
    let a : Passage = passage_between j.one j.other in
    let b : Passage = passage_between j.other j.one in
    let of_pair : (e f : CellEnd) → passage_between e f ≡ p → (e ≡ one) × (f ≡ other) =
    λ e f same. (end_place-same e one (ap (λ (q : Passage). q.from) same), ap (λ (q : Passage). q.to) same) in (
      λ there. elim (Contains-push_cases (ps ++ a ∷ []) b p there) [
        | inr last ↦ let ends = of_pair j.other j.one last in any_last (Pairs one other) joins j (inr (ends.1, ends.0))
        | inl earlier ↦ elim (Contains-push_cases ps a p earlier) [
          | inr first ↦ any_last (Pairs one other) joins j (inl (of_pair j.one j.other first))
          | inl old ↦ any_before (Pairs one other) joins j ((before one other).0 old)
        ]
      ],
      λ paired. elim (any_cases (Pairs one other) joins j paired) [
        | inl old ↦ Contains-append_left (ps ++ a ∷ []) (b ∷ []) p (Contains-append_left ps (a ∷ []) p ((before one other).1 old))
        | inr this ↦ elim this [
          | inl same ↦ let is : a ≡ p = rw (same.0, same.1) refl in
              Contains-append_left (ps ++ a ∷ []) (b ∷ []) p (subst (Contains (ps ++ a ∷ [])) is (Contains-push ps a))
          | inr turned ↦ let is : b ≡ p = rw (turned.0, turned.1) refl in
              subst (Contains ((ps ++ a ∷ []) ++ b ∷ [])) is (Contains-push (ps ++ a ∷ []) b)
        ]
      ],
    )

-- the order of passages doesn't matter
pub passages_permuted : (joins : List JoinSpec) (ps qs : List Passage) → IsPermutation ps qs → ArePassagesOf joins ps → ArePassagesOf joins qs
passages_permuted joins ps qs moved are one other = (
  λ there. (are one other).0 (Contains-permutation qs ps _ (IsPermutation-sym ps qs moved) there),
  λ paired. Contains-permutation ps qs _ moved ((are one other).1 paired),
)
