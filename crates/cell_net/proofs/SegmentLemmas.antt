-- Linked cells are segments that reach each other.
use Rattle.std.proofs.Common.{◌≡◌, ◌↔◌, inl, inr, ℕ, List, map, Some, slice_get, option_map, refl, sym, subst, ◌∙◌, ap}
use Rattle.std.proofs.lemmas.Option.{slice_get-map, slice_get_cases}
use Rattle.cell_net.specs.Borders.{IsAtEnd, Meet, Linked}
use Rattle.cell_net.specs.Segments.{AreBarriers, segment_of}
use Rattle.cell_net.specs.declared.ids.CellId.{CellId}
use Rattle.cell_net.specs.declared.ids.NodeId.{NodeId}
use Rattle.cell_net.specs.declared.ids.SectionId.{SectionId}
use Rattle.cell_net.specs.declared.ids.CandidateId.{CandidateId}
use Rattle.cell_net.specs.declared.cells.CellSpec.{CellSpec}
use Rattle.cell_net.specs.declared.parts.InstanceParts.{InstanceParts}
use Rattle.node_groups.specs.Reach.{Reaches}
use Rattle.node_groups.specs.Touch.{HasEnd, Touch}
use Rattle.node_groups.specs.declared.segments.Segment.{Segment}
use Rattle.node_groups.proofs.ReachLaws.{Reaches-alike}

pub end_of_segment : (cell : CellSpec) (n : NodeId) → IsAtEnd cell n → HasEnd (segment_of cell) n.0
end_of_segment cell n at = elim at [ inl low ↦ inl (ap (λ (m : NodeId). m.0) low) | inr high ↦ inr (ap (λ (m : NodeId). m.0) high) ]

pub end_of_cell : (cell : CellSpec) (n : ℕ) → HasEnd (segment_of cell) n → IsAtEnd cell (record { 0 = n })
end_of_cell cell n at = elim at [ inl low ↦ inl (λ i. record { 0 = low i }) | inr high ↦ inr (λ i. record { 0 = high i }) ]

pub segment_at : (cells : List CellSpec) (k : ℕ) (cell : CellSpec) → slice_get cells k ≡ Some cell → slice_get (map segment_of cells) k ≡ Some (segment_of cell)
segment_at cells k cell is = slice_get-map segment_of cells k ∙ ap (option_map segment_of) is

-- the cell of a segment
pub cell_at : (cells : List CellSpec) (k : ℕ) (s : Segment) → slice_get (map segment_of cells) k ≡ Some s →
    (cell : CellSpec) × (slice_get cells k ≡ Some cell) × (segment_of cell ≡ s)
cell_at cells k s is =
    elim (slice_get_cases cells k).1 [
      | inl (cell, within, at, there) ↦ (cell, at, (let same : Some (segment_of cell) ≡ Some s = sym (segment_at cells k cell at) ∙ is in cc))
      | inr past ↦ absurd (let none = slice_get-map segment_of cells k ∙ ap (option_map segment_of) past.1 in cc)
    ]

-- cells that meet are segments that touch, where the barriers are the nodes of the borders
module _ (p : InstanceParts) (borders : List CandidateId) (barriers : List ℕ) (are : AreBarriers p borders barriers) where
  touch_from_meet : (e f : CellId) → Meet p borders e f → Touch (map segment_of p.cells) barriers e.0 f.0
  touch_from_meet e f m = record {
    first = segment_of m.one;
    second = segment_of m.other;
    at_first = segment_at p.cells e.0 m.one m.is_one;
    at_second = segment_at p.cells f.0 m.other m.is_other;
    one_part = ap (λ (s : SectionId). s.0) m.one_section;
    node = m.node.0;
    end_of_first = end_of_segment m.one m.node m.at_one;
    end_of_second = end_of_segment m.other m.node m.at_other;
    no_barrier = λ there. m.free ((are m.node).0 there);
  }

  meet_from_touch : (i j : ℕ) → Touch (map segment_of p.cells) barriers i j → Meet p borders (record { 0 = i }) (record { 0 = j })
  meet_from_touch i j t =
      let one = cell_at p.cells i t.first t.at_first in
      let other = cell_at p.cells j t.second t.at_second in
      let part : one.0.section.0 ≡ other.0.section.0 =
      ap (λ (s : Segment). s.part) one.2 ∙ (t.one_part ∙ sym (ap (λ (s : Segment). s.part) other.2)) in
      record {
        one = one.0;
        other = other.0;
        node = record { 0 = t.node };
        is_one = one.1;
        is_other = other.1;
        one_section = λ i. record { 0 = part i };
        at_one = end_of_cell one.0 t.node (subst (λ s. HasEnd s t.node) (sym one.2) t.end_of_first);
        at_other = end_of_cell other.0 t.node (subst (λ s. HasEnd s t.node) (sym other.2) t.end_of_second);
        free = λ border. t.no_barrier ((are (record { 0 = t.node })).1 border);
      }

  pub linked_as_reached : (e f : CellId) → Linked p borders e f ↔ Reaches (Touch (map segment_of p.cells) barriers) e.0 f.0
  linked_as_reached e f =
      Reaches-alike (Meet p borders) (Touch (map segment_of p.cells) barriers) (λ (c : CellId). c.0) (λ k. record { 0 = k })
      touch_from_meet meet_from_touch e f refl refl
