-- Linked cells are segments that reach each other.
use Rattle.std.proofs.Common.{◌≡◌, ◌≤◌, ◌↔◌, inl, inr, ℕ, List, [], ◌∷◌, ◌++◌, length, map, Contains, Some, slice_get, slice_index, get_or, sym, subst, ◌∙◌, ap, arith}
use Rattle.std.proofs.lemmas.List.{length-map, get_or_default}
use Rattle.std.proofs.lemmas.List.Elements.{Contains-append_left, Contains-push, Contains-push_cases}
use Rattle.cell_net.specs.declared.ids.NodeId.{NodeId}
use Rattle.cell_net.specs.declared.ids.CandidateId.{CandidateId}
use Rattle.cell_net.specs.declared.parts.InstanceParts.{InstanceParts}
use Rattle.node_groups.specs.Reach.{Reaches}
use Rattle.node_groups.specs.Touch.{Touch}
use Rattle.node_groups.specs.declared.segments.Segment.{Segment}
use Rattle.node_groups.proofs.ReachLaws.{Reaches-refl}
use Rattle.node_groups.specs.Groups.{GroupsByReach, NamedByLowest}
use Rattle.layout_rules.specs.Classes.{AreClasses}
use Rattle.cell_net.specs.Segments.{AreBarriers, segment_of}
use Rattle.cell_net.proofs.SegmentLemmas.{linked_as_reached}

-- one border more
pub barriers_push : (p : InstanceParts) (borders : List CandidateId) (b : CandidateId) (n : NodeId) (barriers : List ℕ) → AreBarriers p borders barriers →
    slice_get p.candidates b.0 ≡ Some n → AreBarriers p (borders ++ b ∷ []) (barriers ++ n.0 ∷ [])
barriers_push p borders b n barriers are is m = (
  λ there. elim (Contains-push_cases barriers n.0 m.0 there) [
    | inl old ↦ let border = (are m).0 old in
        let here = Contains-append_left borders (b ∷ []) border.1 (border.0, border.2, border.3) in (here.0, border.1, here.1, here.2, border.4)
    | inr same ↦ let last = Contains-push borders b in
        (last.0, b, last.1, last.2, (let e : n ≡ m = (λ i. record { 0 = same i }) in is ∙ ap Some e))
  ],
  λ border. elim (Contains-push_cases borders b border.1 (border.0, border.2, border.3)) [
    | inl old ↦ Contains-append_left barriers (n.0 ∷ []) m.0 ((are m).1 (old.0, border.1, old.1, old.2, border.4))
    | inr same ↦ let at : Some n ≡ Some m = sym is ∙ (ap (λ (c : CandidateId). slice_get p.candidates c.0) same ∙ border.4) in
        let e : n ≡ m = cc in subst (λ (k : NodeId). Contains (barriers ++ n.0 ∷ []) k.0) e (Contains-push barriers n.0)
  ],
)

-- groups of segments that reach each other are classes of linked cells
pub classes_from_groups : (p : InstanceParts) (borders : List CandidateId) (segments : List Segment) (barriers groups : List ℕ) →
    segments ≡ map segment_of p.cells → AreBarriers p borders barriers → length groups ≡ length segments →
    GroupsByReach (Touch segments barriers) groups → NamedByLowest (Touch segments barriers) groups → AreClasses p borders groups
classes_from_groups p borders segments barriers groups cells are len by_reach by_lowest =
    let each : length groups ≡ length p.cells = len ∙ (ap length cells ∙ simp length-map) in
    record {
      for_each_cell = each;
      in_range = λ k d within.
          let here : slice_index groups k ≤ k = (by_lowest k within).lowest k (Reaches-refl (Touch segments barriers) k) in
          let same : get_or groups k d ≡ slice_index groups k = get_or_default groups k d 0 within in
          omega arith;
      by_lowest = λ e he.
          let by = by_lowest e.0 (omega arith) in
          let number : ℕ = slice_index groups e.0 in
          record {
            linked = (linked_as_reached p borders barriers are (record { 0 = number }) e).1 (subst (λ s. Reaches (Touch s barriers) number e.0) cells by.reaches);
            lowest = λ f linked. by.lowest f.0 (subst (λ s. Reaches (Touch s barriers) f.0 e.0) (sym cells) ((linked_as_reached p borders barriers are f e).0 linked));
          };
      same_where_linked = λ e f he hf.
          let reached : (slice_index groups e.0 ≡ slice_index groups f.0) ↔ Reaches (Touch (map segment_of p.cells) barriers) e.0 f.0 =
          subst (λ s. (slice_index groups e.0 ≡ slice_index groups f.0) ↔ Reaches (Touch s barriers) e.0 f.0) cells
          (by_reach e.0 f.0 (omega arith) (omega arith)) in
          let linked = linked_as_reached p borders barriers are e f in
          (λ same. linked.1 (reached.0 same), λ link. reached.1 (linked.0 link));
    }
