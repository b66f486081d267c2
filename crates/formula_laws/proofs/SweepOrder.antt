-- The order of sweeps is strict.
use Rattle.std.proofs.Common.{◌≡◌, ◌<◌, inl, inr, ℕ, List, take, get_or, ap, sym, ◌∙◌, arith}
use Rattle.std.specs.Prelude.{Some, slice_get}
use Rattle.std.proofs.lemmas.Bool.{cases_order}
use Rattle.std.proofs.lemmas.List.{get_or-take}
use Rattle.std.proofs.lemmas.Option.{get_or_from_slice_get, same_Some}
use Rattle.cell_net.specs.declared.cells.DirCell.{DirCell}
use Rattle.sweep_table.specs.Order.{directed_number, IsLower, IsSweepBefore}

-- what two lists that are alike up to a place have before it
alike_at : (one other : List DirCell) (place k : ℕ) (c d : DirCell) → take place one ≡ take place other → k < place → slice_get one k ≡ Some c → slice_get other k ≡ Some d → c ≡ d
alike_at one other place k c d alike low at_one at_other =
    sym (get_or_from_slice_get one k c c at_one) ∙ (sym (get_or-take place one k c low) ∙ (ap (λ ds. get_or ds k c) alike ∙ (get_or-take place other k c low ∙ get_or_from_slice_get other k d c at_other)))

-- two first differences are one
not_lower_back : (one other : List DirCell) → IsLower one other → ¬ IsLower other one
not_lower_back one other forth back = elim (cases_order forth.place back.place) [
  | inl same ↦
      let here : forth.here ≡ back.there = same_Some _ _ (sym forth.is_here ∙ (ap (slice_get one) same ∙ back.is_there)) in
      let there : forth.there ≡ back.here = same_Some _ _ (sym forth.is_there ∙ (ap (slice_get other) same ∙ back.is_here)) in
      let e : directed_number forth.here ≡ directed_number back.there = ap directed_number here in
      let f : directed_number forth.there ≡ directed_number back.here = ap directed_number there in
      let g : directed_number forth.here < directed_number forth.there = forth.lower in
      let h : directed_number back.here < directed_number back.there = back.lower in
      omega arith
  | inr differ ↦ elim differ [
    | inl low ↦
        let same : forth.there ≡ forth.here = alike_at other one back.place forth.place forth.there forth.here back.alike low forth.is_there forth.is_here in
        let e : directed_number forth.there ≡ directed_number forth.here = ap directed_number same in
        let g : directed_number forth.here < directed_number forth.there = forth.lower in
        omega arith
    | inr high ↦
        let same : back.there ≡ back.here = alike_at one other forth.place back.place back.there back.here forth.alike high back.is_there back.is_here in
        let e : directed_number back.there ≡ directed_number back.here = ap directed_number same in
        let g : directed_number back.here < directed_number back.there = back.lower in
        omega arith
  ]
]

pub not_before_back : (one other : List DirCell) → IsSweepBefore one other → ¬ IsSweepBefore other one
not_before_back one other forth back = elim forth [
  | inl shorter ↦ elim back [ inl longer ↦ omega arith | inr both ↦ omega (arith, both.0) ]
  | inr both ↦ elim back [ inl shorter ↦ omega (arith, both.0) | inr again ↦ not_lower_back one other both.1 again.1 ]
]
