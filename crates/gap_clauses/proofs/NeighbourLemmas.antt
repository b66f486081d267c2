-- The cells behind a node, gathered number by number, and the rows of them.
use Rattle.std.proofs.Common.{◌≡◌, ◌≢◌, ◌<◌, ◌+◌, ◌*◌, ℕ, List, [], ◌∷◌, ◌++◌, length, get_or, ap, sym, ◌∙◌, inl, inr, subst, arith, refl}
use Rattle.std.specs.Prelude.{Contains, Some, slice_get, slice_index_or}
use Rattle.std.proofs.lemmas.Bool.{cases_eq}
use Rattle.std.proofs.lemmas.List.Quantifiers.{all_pairs_push}
use Rattle.std.proofs.lemmas.List.{length_push, get_or_push, get_or_append_left}
use Rattle.std.proofs.lemmas.List.Elements.{Contains-push, Contains-push_cases, Contains-append_left, Contains-get_or}
use Rattle.std.proofs.lemmas.Option.{same_Some}
use Rattle.cell_net.specs.declared.ids.CellId.{CellId}
use Rattle.cell_net.specs.declared.ids.NodeId.{NodeId}
use Rattle.cell_net.specs.declared.cells.CellSpec.{CellSpec}
use Rattle.cell_net.specs.declared.parts.InstanceParts.{InstanceParts}
use Rattle.gap_clauses.specs.Walks.{SharesNode}
use Rattle.gap_clauses.specs.Fans.{AreBehind, AreBehindBelow, AreRowsBelow}
use Rattle.gap_clauses.proofs.WalkLaws.{same_cell, shares_cell}

pub none_behind : (p : InstanceParts) (cell : CellId) (n : NodeId) → AreBehindBelow p cell n 0 []
none_behind p cell n = record {
  which = λ c. (λ there. let none : there.0 < 0 = there.1 in absurd (omega arith), λ both. let low : c.0 < 0 = both.0 in absurd (omega arith));
  rising = λ i j d low high. absurd (omega arith);
}

-- one cell more, that is one of them
pub behind_more : (p : InstanceParts) (cell : CellId) (n : NodeId) (c : CellId) (found new : List CellId) → AreBehindBelow p cell n c.0 found →
    SharesNode p cell n c → c ≢ cell → new ≡ found ++ c ∷ [] → AreBehindBelow p cell n (c.0 + 1) new
behind_more p cell n c found new old here other is = subst (AreBehindBelow p cell n (c.0 + 1)) (sym is) (record {
  which = λ d. (
    λ there. elim (Contains-push_cases found c d there) [
      | inl was ↦ let both = (old.which d).0 was in (omega (arith, both.0), both.1, both.2)
      | inr same ↦ (omega (arith, ap (λ (x : CellId). x.0) same), subst (SharesNode p cell n) same here, subst (λ (x : CellId). x ≢ cell) same other)
    ],
    λ both. elim (cases_eq d.0 c.0) [
      | inl same ↦ subst (Contains (found ++ c ∷ [])) (sym (same_cell d c same)) (Contains-push found c)
      | inr apart ↦ Contains-append_left found (c ∷ []) d ((old.which d).1 (omega (arith, both.0), both.1, both.2))
    ],
  );
  rising = all_pairs_push (λ (x y : CellId). x.0 < y.0) found c old.rising (λ k d h. ((old.which (get_or found k d)).0 (Contains-get_or found k d h)).0);
})

-- one cell more, that isn't
pub behind_less : (p : InstanceParts) (cell : CellId) (n : NodeId) (c : CellId) (found : List CellId) → AreBehindBelow p cell n c.0 found →
    ¬ (SharesNode p cell n c × (c ≢ cell)) → AreBehindBelow p cell n (c.0 + 1) found
behind_less p cell n c found old never = record {
  which = λ d. (
    λ there. let both = (old.which d).0 there in (omega (arith, both.0), both.1, both.2),
    λ both. elim (cases_eq d.0 c.0) [
      | inl same ↦ absurd (never (subst (λ (x : CellId). SharesNode p cell n x × (x ≢ cell)) (same_cell d c same) (both.1, both.2)))
      | inr apart ↦ (old.which d).1 (omega (arith, both.0), both.1, both.2)
    ],
  );
  rising = old.rising;
}

-- all cells were looked at
pub all_behind : (p : InstanceParts) (cell : CellId) (n : NodeId) (below : ℕ) (found : List CellId) → AreBehindBelow p cell n below found → below ≡ length p.cells → AreBehind p cell n found
all_behind p cell n below found old all = record {
  which = λ d. (
    λ there. let both = (old.which d).0 there in (both.1, both.2),
    λ both. (old.which d).1 (omega (arith, shares_cell p cell n d both.0), both.0, both.1),
  );
  rising = old.rising;
}

pub no_rows : (p : InstanceParts) → AreRowsBelow p 0 []
no_rows p = record { for_each = refl; low = λ c spec low is. absurd (omega arith); high = λ c spec low is. absurd (omega arith) }

-- the two rows of one cell more
pub rows_more : (p : InstanceParts) (cell : CellId) (spec : CellSpec) (low high : List CellId) (rows once new : List (List CellId)) → AreRowsBelow p cell.0 rows → slice_get p.cells cell.0 ≡ Some spec →
    AreBehind p cell spec.low low → AreBehind p cell spec.high high → once ≡ rows ++ low ∷ [] → new ≡ once ++ high ∷ [] → AreRowsBelow p (cell.0 + 1) new
rows_more p cell spec low high rows once new old is at_low at_high one two =
    let size : length once ≡ length rows + 1 = ap length one ∙ length_push rows low in
    let total : length new ≡ length once + 1 = ap length two ∙ length_push once high in
    let old_size = old.for_each in
    let kept : (k : ℕ) → k < length rows → get_or new k [] ≡ get_or rows k [] = λ k h. ap (λ rs. get_or rs k []) two ∙ (get_or_append_left once (high ∷ []) [] k (omega arith) ∙ (ap (λ rs. get_or rs k []) one ∙ get_or_append_left rows (low ∷ []) [] k h)) in
    let here_low : get_or new (2 * cell.0) [] ≡ low = ap (λ rs. get_or rs (2 * cell.0) []) two ∙ (get_or_append_left once (high ∷ []) [] (2 * cell.0) (omega arith) ∙ (ap (λ rs. get_or rs (2 * cell.0) []) one ∙ get_or_push rows low [] (2 * cell.0) (omega arith))) in
    let here_high : get_or new (2 * cell.0 + 1) [] ≡ high = ap (λ rs. get_or rs (2 * cell.0 + 1) []) two ∙ get_or_push once high [] (2 * cell.0 + 1) (omega arith) in
    record {
      for_each = omega arith;
      low = λ c s within at. elim (cases_eq c.0 cell.0) [
        | inl same ↦
            let cells : c ≡ cell = same_cell c cell same in
            let specs : s ≡ spec = same_Some _ _ (sym at ∙ (ap (λ (x : CellId). slice_get p.cells x.0) cells ∙ is)) in
            subst (λ (x : CellId). AreBehind p x s.low (slice_index_or new (2 * x.0) [])) (sym cells)
            (subst (λ (x : CellSpec). AreBehind p cell x.low (slice_index_or new (2 * cell.0) [])) (sym specs) (subst (AreBehind p cell spec.low) (sym here_low) at_low))
        | inr other ↦ subst (AreBehind p c s.low) (sym (kept (2 * c.0) (omega arith))) (old.low c s (omega arith) at)
      ];
      high = λ c s within at. elim (cases_eq c.0 cell.0) [
        | inl same ↦
            let cells : c ≡ cell = same_cell c cell same in
            let specs : s ≡ spec = same_Some _ _ (sym at ∙ (ap (λ (x : CellId). slice_get p.cells x.0) cells ∙ is)) in
            subst (λ (x : CellId). AreBehind p x s.high (slice_index_or new (2 * x.0 + 1) [])) (sym cells)
            (subst (λ (x : CellSpec). AreBehind p cell x.high (slice_index_or new (2 * cell.0 + 1) [])) (sym specs) (subst (AreBehind p cell spec.high) (sym here_high) at_high))
        | inr other ↦ subst (AreBehind p c s.high) (sym (kept (2 * c.0 + 1) (omega arith))) (old.high c s (omega arith) at)
      ];
    }
