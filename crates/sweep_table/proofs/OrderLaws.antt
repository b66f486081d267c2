-- Laws of the order of sweeps: it is irreflexive and asymmetric, and the first difference decides.
use Rattle.std.proofs.Common.{◌≡◌, ◌<◌, ◌≤◌, inl, inr, ℕ, List, length, take, get_or, ap, sym, ◌∙◌, subst, arith}
use Rattle.std.specs.Prelude.{Some, slice_get, AllPairs}
use Rattle.std.proofs.lemmas.Bool.{cases_order, cases_lt}
use Rattle.std.proofs.lemmas.List.{get_or-take}
use Rattle.std.proofs.lemmas.Option.{slice_get_within, get_or_from_slice_get, same_Some}
use Rattle.cell_net.specs.declared.cells.DirCell.{DirCell}
use Rattle.sweep_table.specs.Order.{directed_number, IsLower, IsSweepBefore}

-- what two lists that are alike up to a place have before it
alike_at : (one other : List DirCell) (place k : ℕ) (c d : DirCell) → take place one ≡ take place other → k < place → slice_get one k ≡ Some c → slice_get other k ≡ Some d → c ≡ d
alike_at one other place k c d alike low at_one at_other =
    sym (get_or_from_slice_get one k c c at_one) ∙ (sym (get_or-take place one k c low) ∙ (ap (λ ds. get_or ds k c) alike ∙ (get_or-take place other k c low ∙ get_or_from_slice_get other k d c at_other)))

pub not_lower_itself : (one : List DirCell) → ¬ IsLower one one
not_lower_itself one lower =
    let same : lower.here ≡ lower.there = same_Some _ _ (sym lower.is_here ∙ lower.is_there) in
    let n : directed_number lower.here ≡ directed_number lower.there = ap directed_number same in
    let l : directed_number lower.here < directed_number lower.there = lower.lower in
    omega arith

-- two first differences are one
pub not_lower_back : (one other : List DirCell) → IsLower one other → ¬ IsLower other one
not_lower_back one other forth back = elim (cases_order forth.place back.place) [
  | inl same ↦
      let here : forth.here ≡ back.there = same_Some _ _ (sym forth.is_here ∙ (ap (slice_get one) same ∙ back.is_there)) in
      let there : forth.there ≡ back.here = same_Some _ _ (sym forth.is_there ∙ (ap (slice_get other) same ∙ back.is_here)) in
      let e : directed_number forth.here ≡ directed_number back.there = ap directed_number here in
      let f : directed_number forth.there ≡ directed_number back.here = ap directed_number there in
      let g : directed_number forth.here < directed_number forth.there = forth.lower in
      let h : directed_number back.here < directed_number back.there = back.lower in
      omega arith
  | inr differ ↦ elim differ [
    | inl low ↦
        let same : forth.there ≡ forth.here = alike_at other one back.place forth.place forth.there forth.here back.alike low forth.is_there forth.is_here in
        let e : directed_number forth.there ≡ directed_number forth.here = ap directed_number same in
        let g : directed_number forth.here < directed_number forth.there = forth.lower in
        omega arith
    | inr high ↦
        let same : back.there ≡ back.here = alike_at one other forth.place back.place back.there back.here forth.alike high back.is_there back.is_here in
        let e : directed_number back.there ≡ directed_number back.here = ap directed_number same in
        let g : directed_number back.here < directed_number back.there = back.lower in
        omega arith
  ]
]

pub not_before_itself : (one : List DirCell) → ¬ IsSweepBefore one one
not_before_itself one before = elim before [ inl shorter ↦ omega arith | inr both ↦ not_lower_itself one both.1 ]

pub not_before_back : (one other : List DirCell) → IsSweepBefore one other → ¬ IsSweepBefore other one
not_before_back one other forth back = elim forth [
  | inl shorter ↦ elim back [ inl longer ↦ omega arith | inr both ↦ omega (arith, both.0) ]
  | inr both ↦ elim back [ inl shorter ↦ omega (arith, both.0) | inr again ↦ not_lower_back one other both.1 again.1 ]
]

-- a difference at the first place decides
pub lower_here : (one other : List DirCell) (place : ℕ) (c d : DirCell) → take place one ≡ take place other → slice_get one place ≡ Some c → slice_get other place ≡ Some d → directed_number c < directed_number d → IsLower one other
lower_here one other place c d alike at_one at_other lower = record { place = place; alike = alike; here = c; there = d; is_here = at_one; is_there = at_other; lower = lower }

-- lists of one length that are alike to the end are one
pub not_lower_alike : (one other : List DirCell) (n : ℕ) → take n one ≡ take n other → length one ≤ n → ¬ IsLower one other
not_lower_alike one other n alike whole lower =
    let within : lower.place < length one = slice_get_within one lower.place lower.here lower.is_here in
    let same : lower.here ≡ lower.there = alike_at one other n lower.place lower.here lower.there alike (omega arith) lower.is_here lower.is_there in
    let e : directed_number lower.here ≡ directed_number lower.there = ap directed_number same in
    let g : directed_number lower.here < directed_number lower.there = lower.lower in
    omega arith

-- a list in order has what stands before an item before it
pub in_order : (rows : List (List DirCell)) (k q : ℕ) (row cells : List DirCell) → AllPairs IsSweepBefore rows → slice_get rows k ≡ Some row → slice_get rows q ≡ Some cells → k < q → IsSweepBefore row cells
in_order rows k q row cells order at_k at_q low =
    let pair = order k q row low (slice_get_within rows q cells at_q) in
    let e : get_or rows k row ≡ row = get_or_from_slice_get rows k row row at_k in
    let f : get_or rows q row ≡ cells = get_or_from_slice_get rows q cells row at_q in
    rw (e, f) at pair

-- the place of an item in a list in order: what is before it stands below, and nothing else
pub below_place : (rows : List (List DirCell)) (k q : ℕ) (row cells : List DirCell) → AllPairs IsSweepBefore rows → slice_get rows k ≡ Some row → slice_get rows q ≡ Some cells → IsSweepBefore row cells → k < q
below_place rows k q row cells order at_k at_q before = elim (cases_order k q) [
  | inl same ↦ let e : row ≡ cells = same_Some _ _ (sym at_k ∙ (ap (slice_get rows) same ∙ at_q)) in absurd (not_before_itself cells (subst (λ r. IsSweepBefore r cells) e before))
  | inr differ ↦ elim differ [
    | inl low ↦ low
    | inr high ↦ absurd (not_before_back row cells before (in_order rows q k cells row order at_q at_k high))
  ]
]

-- and what stands not below it is not before it
pub from_place : (rows : List (List DirCell)) (k q : ℕ) (row cells : List DirCell) → AllPairs IsSweepBefore rows → slice_get rows k ≡ Some row → slice_get rows q ≡ Some cells → ¬ IsSweepBefore row cells → q ≤ k
from_place rows k q row cells order at_k at_q not_before = elim (cases_lt k q) [
  | inl low ↦ absurd (not_before (in_order rows k q row cells order at_k at_q low))
  | inr high ↦ high
]
