-- A node joins two cells where the ends at it are of two cells of one section.
use Rattle.std.proofs.Common.{◌≡◌, ◌⊎◌, ℕ, List, Contains, get_or, refl, sym, subst, ◌∙◌, ap, inl, inr}
use Rattle.std.proofs.lemmas.List.Elements.{All-contains, Contains-get_or}
use Rattle.node_groups.specs.Ends.{IsStretchAt, end_at}
use Rattle.node_groups.specs.Touch.{HasEnd}
use Rattle.node_groups.specs.declared.ends.End.{End}
use Rattle.node_groups.specs.declared.segments.Segment.{Segment}
use Rattle.cell_net.specs.Borders.{IsCellAt, IsInSection}
use Rattle.cell_net.specs.CellEnds.{AreCellEnds, AreOfTwo}
use Rattle.cell_net.specs.Rules.{JoinsTwoCells}
use Rattle.cell_net.specs.Segments.{segment_of}
use Rattle.cell_net.specs.declared.ids.CellId.{CellId}
use Rattle.cell_net.specs.declared.ids.NodeId.{NodeId}
use Rattle.cell_net.specs.declared.parts.InstanceParts.{InstanceParts}
use Rattle.cell_net.proofs.RuleLemmas.{one_section}
use Rattle.cell_net.proofs.SegmentLemmas.{cell_at, end_of_cell, end_of_segment, segment_at}

abbrev cell_of : End → CellId
cell_of e = record { 0 = e.place }

same_cell : (c d : CellId) → c.0 ≡ d.0 → c ≡ d
same_cell c d same = λ i. record { 0 = same i }

module _ (p : InstanceParts) (ends stretch : List End) (n : NodeId) (are : AreCellEnds p ends) (at : IsStretchAt ends n.0 stretch) where
  -- the cell of an end at the node is at the node
  cell_there : (e : End) → Contains stretch e → IsCellAt p (cell_of e) n
  cell_there e there =
      let is = (are.each e).0 (at.some e there) in
      let node : e.node ≡ n.0 = All-contains (λ (f : End). f.node ≡ n.0) stretch e at.here there in
      let (cell, found, same) = cell_at p.cells e.place is.segment is.is in
      record {
        cell = cell;
        is = found;
        at_end = end_of_cell cell n.0 (subst (HasEnd (segment_of cell)) node (subst (λ (s : Segment). HasEnd s e.node) (sym same) is.node));
      }

  -- an end's part is the section of its cell
  section_there : (e : End) → Contains stretch e → IsInSection p e.part (cell_of e)
  section_there e there =
      let is = (are.each e).0 (at.some e there) in
      let (cell, found, same) = cell_at p.cells e.place is.segment is.is in
      record { cell = cell; is = found; of_section = ap (λ (s : Segment). s.part) same ∙ is.part }

  -- a cell at the node has an end there
  end_there : (c : CellId) → IsCellAt p c n → (e : End) × Contains stretch e × (e.place ≡ c.0)
  end_there c is =
      let e : End = end_at n.0 is.cell.section.0 c.0 in
      let there : Contains ends e = (are.each e).1 (record {
        segment = segment_of is.cell;
        is = segment_at p.cells c.0 is.cell is.is;
        part = refl;
        node = end_of_segment is.cell n is.at_end;
      }) in
      (e, at.all e there refl, refl)

  pub joined : (one other : End) → AreOfTwo stretch one other → one.part ≡ other.part → JoinsTwoCells p n
  joined one other two part = record {
    one = cell_of one;
    other = cell_of other;
    section = one.part;
    are_two = λ same. two.are_two (ap (λ (c : CellId). c.0) same);
    one_at = cell_there one two.has_one;
    other_at = cell_there other two.has_other;
    one_in = section_there one two.has_one;
    other_in = subst (λ s. IsInSection p s (cell_of other)) (sym part) (section_there other two.has_other);
    no_third = λ c is.
        let (e, there, place) = end_there c is in
        elim (All-contains (λ (f : End). (f.place ≡ one.place) ⊎ (f.place ≡ other.place)) stretch e two.no_third there) [
          | inl first ↦ inl (same_cell c (cell_of one) (sym place ∙ first))
          | inr second ↦ inr (same_cell c (cell_of other) (sym place ∙ second))
        ];
  }

  -- if the node joins two cells, the ends at it are of two
  pub of_joined : JoinsTwoCells p n → (one : End) × (other : End) × AreOfTwo stretch one other
  of_joined j =
      let (one, has_one, one_is) = end_there j.one j.one_at in
      let (other, has_other, other_is) = end_there j.other j.other_at in (
        one,
        other,
        record {
          has_one = has_one;
          has_other = has_other;
          are_two = λ same. j.are_two (same_cell j.one j.other (sym one_is ∙ (same ∙ other_is)));
          no_third = λ k d within. elim (j.no_third (cell_of (get_or stretch k d)) (cell_there (get_or stretch k d) (Contains-get_or stretch k d within))) [
            | inl first ↦ inl (ap (λ (c : CellId). c.0) first ∙ sym one_is)
            | inr second ↦ inr (ap (λ (c : CellId). c.0) second ∙ sym other_is)
          ];
        },
      )

  joined_section : (e : End) → Contains stretch e → (section : ℕ) → IsInSection p section (cell_of e) → (j : JoinsTwoCells p n) → section ≡ j.section
  joined_section e there section is j = elim (j.no_third (cell_of e) (cell_there e there)) [
    | inl first ↦ one_section p (cell_of e) section j.section is (subst (IsInSection p j.section) (sym first) j.one_in)
    | inr second ↦ one_section p (cell_of e) section j.section is (subst (IsInSection p j.section) (sym second) j.other_in)
  ]

  -- and the two are of one section
  pub joined_part : (one other : End) → AreOfTwo stretch one other → JoinsTwoCells p n → one.part ≡ other.part
  joined_part one other two j =
      joined_section one two.has_one one.part (section_there one two.has_one) j ∙
      sym (joined_section other two.has_other other.part (section_there other two.has_other) j)
