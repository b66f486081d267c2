-- The places of the first and last cells, sweep by sweep.
use Rattle.std.proofs.Common.{◌≡◌, ◌<◌, ◌+◌, inl, inr, ℕ, List, [], ◌∷◌, ◌++◌, length, get_or, ap, sym, ◌∙◌, refl, subst, arith}
use Rattle.std.specs.Prelude.{Some, slice_get}
use Rattle.std.proofs.lemmas.Bool.{cases_eq}
use Rattle.std.proofs.lemmas.List.{length_push, get_or_push, get_or_append_left}
use Rattle.std.proofs.lemmas.List.Elements.{All-push}
use Rattle.std.proofs.lemmas.Option.{same_Some}
use Rattle.cell_net.specs.declared.cells.DirCell.{DirCell}
use Rattle.sweep_table.specs.Ends.{ArePlacesBelow}

pub no_places : (sweeps : List (List DirCell)) (part : List DirCell → List DirCell) → ArePlacesBelow sweeps part 0 []
no_places sweeps part = record {
  for_each = refl;
  in_range = λ k d h. absurd (omega arith);
  each = λ k cells h at. absurd (omega arith);
}

pub places_more : (sweeps : List (List DirCell)) (part : List DirCell → List DirCell) (below place : ℕ) (cells here : List DirCell) (places new : List ℕ) → ArePlacesBelow sweeps part below places →
    slice_get sweeps below ≡ Some cells → here ≡ part cells → place < length sweeps → slice_get sweeps place ≡ Some here → new ≡ places ++ place ∷ [] → ArePlacesBelow sweeps part (below + 1) new
places_more sweeps part below place cells here places new old at_cells here_is within at_place is = subst (ArePlacesBelow sweeps part (below + 1)) (sym is) (record {
  for_each = length_push places place ∙ ap (λ n. n + 1) old.for_each;
  in_range = All-push (λ k. k < length sweeps) places place old.in_range within;
  each = λ k other h at. elim (cases_eq k below) [
    | inl same ↦
        let e : get_or (places ++ place ∷ []) k 0 ≡ place = get_or_push places place 0 k (old.for_each ∙ sym same) in
        let f : other ≡ cells = same_Some _ _ (sym at ∙ (ap (slice_get sweeps) same ∙ at_cells)) in
        ap (slice_get sweeps) e ∙ (at_place ∙ ap Some (here_is ∙ ap part (sym f)))
    | inr differ ↦
        let e : get_or (places ++ place ∷ []) k 0 ≡ get_or places k 0 = get_or_append_left places (place ∷ []) 0 k (omega (arith, old.for_each)) in
        ap (slice_get sweeps) e ∙ old.each k other (omega arith) at
  ];
})
