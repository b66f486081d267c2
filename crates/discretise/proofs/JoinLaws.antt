-- Each join of the grid is good: it is between two different ends of cells at one node.
use Rattle.std.proofs.Common.{◌≡◌, ◌≢◌, ◌+◌, ◌-◌, ◌<◌, inl, inr, ℕ, suc, List, [], ◌∷◌, length, map, Some, slice_get, refl, sym, ap, subst, ◌∙◌, arith}
use Rattle.std.specs.List.{Contains, range_with_len}
use Rattle.std.proofs.lemmas.List.Elements.{Contains-append_cases}
use Rattle.std.proofs.lemmas.Option.{same_Some}
use Rattle.vss_lists.specs.Breaks.{HoldsOfEach}
use Rattle.cell_net.specs.Rules.{IsGoodJoin, IsNodeOf}
use Rattle.cell_net.specs.declared.ids.CellId.{CellId}
use Rattle.cell_net.specs.declared.cells.CellEnd.{CellEnd}
use Rattle.cell_net.specs.declared.cells.JoinSpec.{JoinSpec}
use Rattle.cell_net.specs.declared.parts.InstanceParts.{InstanceParts}
use Rattle.rail_net.specs.Parts.{IsTrack}
use Rattle.rail_net.specs.Passages.{LeadsOver}
use Rattle.rail_net.specs.Refusals.{IsNet}
use Rattle.rail_net.specs.Rules.{HasPairs}
use Rattle.rail_net.specs.declared.parts.NodeKind.{NodeKind}
use Rattle.rail_net.specs.declared.parts.NodeKind.TheVariants.{EndNode, Joint, Point, Crossing}
use Rattle.rail_net.specs.declared.parts.NetParts.{NetParts}
use Rattle.rail_net.proofs.ListLaws.{contains_at, mapped_at, place_of}
use Rattle.timetable.specs.declared.parts.Timetable.{Timetable}
use Rattle.discretise.specs.Tracks.{AreGridTracks}
use Rattle.discretise.specs.Cells.{cell, cell_in, cells_on, node, node_before}
use Rattle.discretise.specs.Joins.{AreJoins, IsPassage, NodePair, cut_join, cut_joins, cut_joins_in, ends_at, join_of, node_pairs, pair_with, pairs_from, pairs_of}
use Rattle.discretise.specs.declared.tracks.GridTrack.{GridTrack}
use Rattle.discretise.specs.declared.ends.TrackEnd.{TrackEnd}
use Rattle.discretise.proofs.ChainLemmas.{chained, one_by_cell, row_is}
use Rattle.discretise.proofs.GridLemmas.{end_has, flat_has}
use Rattle.discretise.proofs.NetLemmas.{has_number}
use Rattle.discretise.proofs.PickLaws.{picked_holds}
use Rattle.discretise.proofs.RowLemmas.{has_first, has_later}
use Rattle.discretise.proofs.SectionLemmas.{last_high}
use Rattle.discretise.proofs.SoundLemmas.{here_cell}

-- the pairs are of ends at their node
pub record IsPairIn (from : ℕ) (rows : List (List TrackEnd)) (pair : NodePair) : Type 0 where
  pub row : List TrackEnd
  pub place : ℕ
  pub is : slice_get rows place ≡ Some row
  pub number : pair.node ≡ from + place
  pub one : Contains row pair.one
  pub other : Contains row pair.other

pair_at : (n : ℕ) (ends : List TrackEnd) (pair : NodePair) → Contains (pairs_of n ends) pair → (pair.node ≡ n) × Contains ends pair.one × Contains ends pair.other
pair_at n [] pair there = absurd (omega (arith, there.1))
pair_at n (e ∷ es) pair there = elim (Contains-append_cases (map (pair_with n e) es) (pairs_of n es) pair there) [
  | inl here ↦
      let at = place_of (map (pair_with n e) es) pair here in
      let its = mapped_at (pair_with n e) es at.0 pair at.1 in (
        sym (ap (λ (x : NodePair). x.node) its.2),
        subst (Contains (e ∷ es)) (ap (λ (x : NodePair). x.one) its.2) (has_first e es),
        subst (Contains (e ∷ es)) (ap (λ (x : NodePair). x.other) its.2) (has_later e es its.0 (contains_at es at.0 its.0 its.1)),
      )
  | inr later ↦ let rest = pair_at n es pair later in (rest.0, has_later e es pair.one rest.1, has_later e es pair.other rest.2)
]

pair_in : (from : ℕ) (rows : List (List TrackEnd)) (pair : NodePair) → Contains (pairs_from from rows) pair → IsPairIn from rows pair
pair_in from [] pair there = absurd (omega (arith, there.1))
pair_in from (row ∷ rows) pair there = elim (Contains-append_cases (pairs_of from row) (pairs_from (from + 1) rows) pair there) [
  | inl here ↦ let at = pair_at from row pair here in record { row = row; place = 0; is = refl; number = omega (arith, at.0); one = at.1; other = at.2 }
  | inr later ↦
      let rest = pair_in (from + 1) rows pair later in
      record { row = rest.row; place = suc rest.place; is = rest.is; number = omega (arith, rest.number); one = rest.one; other = rest.other }
]

-- a passage is between two tracks of different names
differ_over : (p : NetParts) (node : List ℕ) (kind : NodeKind) → HasPairs p node kind → (one other : List ℕ) → LeadsOver kind one other → one ≢ other
differ_over p node EndNode pairs one other leads same = leads
differ_over p node Joint pairs one other leads same = leads same
differ_over p node (Point tip) pairs one other leads same = leads.0 same
differ_over p node (Crossing first second) pairs one other leads same = elim leads [
  | inl a ↦ elim a [ inl x ↦ pairs.differ.a_b (sym x.0 ∙ (same ∙ x.1)) | inr x ↦ pairs.differ.a_b (sym x.1 ∙ (sym same ∙ x.0)) ]
  | inr b ↦ elim b [ inl x ↦ pairs.differ.c_d (sym x.0 ∙ (same ∙ x.1)) | inr x ↦ pairs.differ.c_d (sym x.1 ∙ (sym same ∙ x.0)) ]
]

pub passage_differs : (p : NetParts) → IsNet p → (pair : NodePair) → IsPassage p pair → pair.one.track ≢ pair.other.track
passage_differs p net pair h same =
    let names : h.first ≡ h.second = same_Some h.first h.second (sym (subst (λ k. IsTrack p h.first k) same h.is_first) ∙ h.is_second) in
    differ_over p h.part.name h.part.kind (net.pairs.at_each pair.node h.part h.is_node) h.first h.second h.leads names

module _ (p : NetParts) (t : Timetable) (gs : List GridTrack) (i : InstanceParts) (net : IsNet p) (all : AreGridTracks p t gs) (cells : i.cells ≡ cells_on gs) (some : (k : ℕ) (g : GridTrack) → slice_get gs k ≡ Some g → 0 < g.count) where
  -- the cell of an end of a track
  pub record IsCellOfEnd (n : ℕ) (e : TrackEnd) : Type 0 where
    pub g : GridTrack
    pub there : slice_get gs g.number ≡ Some g
    pub its : g.number ≡ e.track
    pub place : ℕ
    pub within : place < g.count
    pub number : e.end.cell.0 ≡ g.first + place
    pub node_of : IsNodeOf i e.end (node n)

  pub cell_of_end : (n : ℕ) (e : TrackEnd) → Contains (ends_at gs n) e → IsCellOfEnd n e
  unfolding IsNodeOf
  cell_of_end n e there =
      let at = end_has gs n e there in
      let g = at.0 in
      let is = has_number p t gs net all g at.1 in
      let has : 0 < g.count = some g.number g is in
      elim at.2.which [
        | inl low ↦ subst (IsCellOfEnd n) low.1 (record {
          g = g;
          there = is;
          its = refl;
          place = 0;
          within = has;
          number = omega arith;
          node_of = (cell_in g 0, subst (λ c. slice_get i.cells c ≡ Some (cell_in g 0)) (let same : g.first + 0 ≡ g.first = omega arith in same) (here_cell p t gs i all cells g.number g 0 is has), ap node low.0);
        })
        | inr high ↦ subst (IsCellOfEnd n) high.1 (record {
          g = g;
          there = is;
          its = refl;
          place = g.count - 1;
          within = omega arith;
          number = refl;
          node_of = (cell_in g (g.count - 1), here_cell p t gs i all cells g.number g (g.count - 1) is (omega arith), ap node (last_high g has ∙ high.0));
        })
      ]

  -- ends of different tracks are of different cells
  pub cells_differ : (n m : ℕ) (e f : TrackEnd) → Contains (ends_at gs n) e → Contains (ends_at gs m) f → e.track ≢ f.track → e.end.cell ≢ f.end.cell
  cells_differ n m e f in_e in_f tracks same =
      let one = cell_of_end n e in_e in
      let other = cell_of_end m f in_f in
      let number : e.end.cell.0 ≡ f.end.cell.0 = ap (λ (c : CellId). c.0) same in
      let track : one.g.number ≡ other.g.number = one_by_cell 0 (length p.nodes) gs (chained p t gs all) one.g.number other.g.number one.g other.g one.place other.place one.there other.there one.within other.within (omega (arith, one.number, other.number)) in
      tracks (sym one.its ∙ (track ∙ other.its))

  good_cut : (j : JoinSpec) (k : ℕ) → Contains (cut_joins gs) j → IsGoodJoin i k j
  unfolding IsNodeOf
  good_cut j k there =
      let at = flat_has cut_joins_in gs j there in
      let g = at.0 in
      let is = has_number p t gs net all g at.1 in
      let place = place_of (cut_joins_in g) j at.2 in
      let row = row_is (cut_join g) (g.count - 1) place.0 j place.1 in
      subst (IsGoodJoin i k) row.1 (record {
        two_ends = λ same. let number : g.first + place.0 ≡ g.first + place.0 + 1 = ap (λ (e : CellEnd). e.cell.0) same in omega arith;
        node = node (node_before g (place.0 + 1));
        at_one = (cell_in g place.0, here_cell p t gs i all cells g.number g place.0 is (omega (arith, row.0)), refl);
        at_other = (
          cell_in g (place.0 + 1),
          subst (λ c. slice_get i.cells c ≡ Some (cell_in g (place.0 + 1))) (let same : g.first + (place.0 + 1) ≡ g.first + place.0 + 1 = omega arith in same)
              (here_cell p t gs i all cells g.number g (place.0 + 1) is (omega (arith, row.0))),
          refl,
        );
      })

  good_passage : (pair : NodePair) (k : ℕ) → Contains (node_pairs (map (ends_at gs) (range_with_len 0 (length p.nodes)))) pair → IsPassage p pair → IsGoodJoin i k (join_of pair)
  good_passage pair k there leads =
      let at = pair_in 0 (map (ends_at gs) (range_with_len 0 (length p.nodes))) pair there in
      let row = row_is (ends_at gs) (length p.nodes) at.place at.row at.is in
      let number : at.place ≡ pair.node = omega (arith, at.number) in
      let same : at.row ≡ ends_at gs pair.node = sym row.1 ∙ ap (ends_at gs) number in
      let in_one : Contains (ends_at gs pair.node) pair.one = subst (λ es. Contains es pair.one) same at.one in
      let in_other : Contains (ends_at gs pair.node) pair.other = subst (λ es. Contains es pair.other) same at.other in
      record {
        two_ends = λ equal. cells_differ pair.node pair.node pair.one pair.other in_one in_other (passage_differs p net pair leads) (ap (λ (e : CellEnd). e.cell) equal);
        node = node pair.node;
        at_one = (cell_of_end pair.node pair.one in_one).node_of;
        at_other = (cell_of_end pair.node pair.other in_other).node_of;
      }

  pub good_joins : (joins : List JoinSpec) → AreJoins p gs joins → HoldsOfEach (IsGoodJoin i) joins
  good_joins joins are = record {
    at_each = λ k j is. elim (Contains-append_cases (cut_joins gs) (map join_of are.passages) j (subst (λ js. Contains js j) are.are (contains_at joins k j is))) [
      | inl cut ↦ good_cut j k cut
      | inr over ↦
          let place = place_of (map join_of are.passages) j over in
          let its = mapped_at join_of are.passages place.0 j place.1 in
          let picked = picked_holds (IsPassage p) (node_pairs (map (ends_at gs) (range_with_len 0 (length p.nodes)))) are.passages are.picked its.0 (contains_at are.passages place.0 its.0 its.1) in
          subst (IsGoodJoin i k) its.2 (good_passage its.0 k picked.0 picked.1)
    ];
  }
