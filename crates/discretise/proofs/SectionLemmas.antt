-- The cells of a section are connected, as its tracks are.
use Rattle.std.proofs.Common.{◌≡◌, ◌+◌, ◌-◌, ◌<◌, inl, inr, ℕ, zero, suc, List, [], get_or, Some, slice_get, refl, sym, ap, subst, ◌∙◌, arith}
use Rattle.std.proofs.lemmas.Option.{get_or_from_slice_get}
use Rattle.node_groups.specs.Reach.{Reaches}
use Rattle.node_groups.proofs.ReachLaws.{Reaches-map, Reaches-refl, Reaches-step, Reaches-sym, Reaches-trans}
use Rattle.cell_net.specs.Borders.{IsAtEnd, IsBorder, IsInSection, Linked, Meet}
use Rattle.cell_net.specs.Sections.{IsConnected}
use Rattle.cell_net.specs.declared.ids.CellId.{CellId}
use Rattle.cell_net.specs.declared.ids.NodeId.{NodeId}
use Rattle.cell_net.specs.declared.cells.CellSpec.{CellSpec}
use Rattle.cell_net.specs.declared.parts.InstanceParts.{InstanceParts}
use Rattle.rail_net.specs.Parts.{EndsAt, IsNode, IsTrackOfSection}
use Rattle.rail_net.specs.Sections.{Adjoin, HangsTogether as AreJoinedTracks}
use Rattle.rail_net.specs.Refusals.{IsNet}
use Rattle.rail_net.specs.declared.parts.TrackPart.{TrackPart}
use Rattle.rail_net.specs.declared.parts.NetParts.{NetParts}
use Rattle.timetable.specs.declared.parts.Timetable.{Timetable}
use Rattle.discretise.specs.Tracks.{AreGridTracks, no_track}
use Rattle.discretise.specs.Cells.{cell, cell_in, cells_on, node, node_before}
use Rattle.discretise.specs.declared.tracks.GridTrack.{GridTrack}
use Rattle.discretise.proofs.ChainLemmas.{node_cases}
use Rattle.discretise.proofs.NetLemmas.{IsTrackAt, grid_of, one_node, part_of, section_is}
use Rattle.discretise.proofs.SoundLemmas.{cell_here, here_cell}

pub same_cell : (a b : ℕ) → a ≡ b → cell a ≡ cell b
same_cell a b same = ap cell same

no_border : (i : InstanceParts) (n : NodeId) → ¬ IsBorder i [] n
no_border i n (k, b, within, is, stands) = omega arith

meet_back : (i : InstanceParts) (e f : CellId) → Meet i [] e f → Meet i [] f e
meet_back i e f m = record {
  one = m.other;
  other = m.one;
  node = m.node;
  is_one = m.is_other;
  is_other = m.is_one;
  one_section = sym m.one_section;
  at_one = m.at_other;
  at_other = m.at_one;
  free = m.free;
}

-- the last cell of a track ends at the node where the track does
pub last_high : (g : GridTrack) → 0 < g.count → node_before g (g.count - 1 + 1) ≡ g.to
last_high g some = elim (node_cases g (g.count - 1 + 1) some (omega arith)) [
  | inl first ↦ omega (arith, first.0)
  | inr others ↦ elim others [ inl last ↦ last.1 | inr inner ↦ omega (arith, inner.1) ]
]

module _ (p : NetParts) (t : Timetable) (gs : List GridTrack) (i : InstanceParts) (net : IsNet p) (all : AreGridTracks p t gs) (cells : i.cells ≡ cells_on gs) (some : (k : ℕ) (g : GridTrack) → slice_get gs k ≡ Some g → 0 < g.count) where
  next : (k : ℕ) (g : GridTrack) (place : ℕ) → slice_get gs k ≡ Some g → place + 1 < g.count → Meet i [] (cell (g.first + place)) (cell (g.first + (place + 1)))
  next k g place is below = record {
    one = cell_in g place;
    other = cell_in g (place + 1);
    node = node (node_before g (place + 1));
    is_one = here_cell p t gs i all cells k g place is (omega arith);
    is_other = here_cell p t gs i all cells k g (place + 1) is below;
    one_section = refl;
    at_one = inr refl;
    at_other = inl refl;
    free = no_border i (node (node_before g (place + 1)));
  }

  -- the first cell of a track is linked with each of its cells
  from_first : (k : ℕ) (g : GridTrack) (place : ℕ) → slice_get gs k ≡ Some g → place < g.count → Linked i [] (cell (g.first + 0)) (cell (g.first + place))
  from_first k g zero is below = Reaches-refl (Meet i []) (cell (g.first + 0))
  from_first k g (suc place) is below =
      let last : Meet i [] (cell (g.first + place)) (cell (g.first + suc place)) =
      subst (λ c. Meet i [] (cell (g.first + place)) c) (same_cell (g.first + (place + 1)) (g.first + suc place) (omega arith)) (next k g place is (omega arith)) in
      Reaches-trans (Meet i []) (cell (g.first + 0)) (cell (g.first + place)) (cell (g.first + suc place)) (from_first k g place is (omega arith)) (Reaches-step (Meet i []) (cell (g.first + place)) (cell (g.first + suc place)) last)

  to_first : (k : ℕ) (g : GridTrack) (place : ℕ) → slice_get gs k ≡ Some g → place < g.count → Linked i [] (cell (g.first + place)) (cell (g.first + 0))
  to_first k g place is below = Reaches-sym (Meet i []) (meet_back i) (cell (g.first + 0)) (cell (g.first + place)) (from_first k g place is below)

  -- a cell of a track at a node where the track ends
  record IsCellTo (name : List ℕ) (k : ℕ) : Type 0 where
    number : ℕ
    is_node : IsNode p name number
    part : TrackPart
    g : GridTrack
    track : IsTrackAt p t gs k part g
    place : ℕ
    within : place < g.count
    at_end : IsAtEnd (cell_in g place) (node number)

  cell_to : (name : List ℕ) (k : ℕ) → EndsAt p name k → IsCellTo name k
  cell_to name k ends =
      let at = grid_of p t gs net all k ends.part ends.is_track in
      let g = at.0 in
      let has : 0 < g.count = some k g at.1.is_grid in
      elim ends.at_end [
        | inl from ↦ record {
          number = g.from;
          is_node = subst (λ m. IsNode p m g.from) from at.1.own.from;
          part = ends.part;
          g = g;
          track = at.1;
          place = 0;
          within = has;
          at_end = inl refl;
        }
        | inr to ↦ record {
          number = g.to;
          is_node = subst (λ m. IsNode p m g.to) to at.1.own.to;
          part = ends.part;
          g = g;
          track = at.1;
          place = g.count - 1;
          within = omega arith;
          at_end = inr (ap node (last_high g has));
        }
      ]

  -- the number of the first cell of a track
  abbrev first_of : ℕ → CellId
  first_of k = cell ((get_or gs k no_track).first + 0)

  first_is : (k : ℕ) (part : TrackPart) (g : GridTrack) → IsTrackAt p t gs k part g → first_of k ≡ cell (g.first + 0)
  first_is k part g track = ap (λ (h : GridTrack). cell (h.first + 0)) (get_or_from_slice_get gs k g no_track track.is_grid)

  -- where two tracks of a section share a node, their first cells are linked
  along : (x y : ℕ) → Adjoin p x y → Linked i [] (first_of x) (first_of y)
  along x y adjoin =
      let one = cell_to adjoin.node x adjoin.at_node in
      let other = cell_to adjoin.node y adjoin.too in
      let same_node : other.number ≡ one.number = one_node p t gs net all other.number one.number adjoin.node other.is_node one.is_node in
      let sections : one.g.section ≡ other.g.section = sym (section_is p t gs net all x adjoin.section one.part one.g one.track adjoin.in_section) ∙ section_is p t gs net all y adjoin.section other.part other.g other.track adjoin.also in
      let meet : Meet i [] (cell (one.g.first + one.place)) (cell (other.g.first + other.place)) = record {
        one = cell_in one.g one.place;
        other = cell_in other.g other.place;
        node = node one.number;
        is_one = here_cell p t gs i all cells x one.g one.place one.track.is_grid one.within;
        is_other = here_cell p t gs i all cells y other.g other.place other.track.is_grid other.within;
        one_section = ap (λ n. record { 0 = n }) sections;
        at_one = one.at_end;
        at_other = subst (λ n. IsAtEnd (cell_in other.g other.place) (node n)) same_node other.at_end;
        free = no_border i (node one.number);
      } in
      subst (λ c. Linked i [] c (first_of y)) (sym (first_is x one.part one.g one.track))
      (subst (λ c. Linked i [] (cell (one.g.first + 0)) c) (sym (first_is y other.part other.g other.track))
      (Reaches-trans (Meet i []) (cell (one.g.first + 0)) (cell (one.g.first + one.place)) (cell (other.g.first + 0)) (from_first x one.g one.place one.track.is_grid one.within)
      (Reaches-trans (Meet i []) (cell (one.g.first + one.place)) (cell (other.g.first + other.place)) (cell (other.g.first + 0)) (Reaches-step (Meet i []) (cell (one.g.first + one.place)) (cell (other.g.first + other.place)) meet)
      (to_first y other.g other.place other.track.is_grid other.within))))

  -- a cell of a section is of a track of it
  record IsOfTrack (section : ℕ) (e : CellId) : Type 0 where
    k : ℕ
    part : TrackPart
    g : GridTrack
    track : IsTrackAt p t gs k part g
    place : ℕ
    within : place < g.count
    is_cell : e ≡ cell (g.first + place)
    of_section : IsTrackOfSection p section k

  of_track : (section : ℕ) (e : CellId) → IsInSection i section e → IsOfTrack section e
  of_track section e inside =
      let at = cell_here p t gs i all cells e.0 inside.cell inside.is in
      let its = part_of p t gs net all at.k at.g at.there in
      let same : at.g.section ≡ section = ap (λ (c : CellSpec). c.section.0) at.is ∙ inside.of_section in
      record {
        k = at.k;
        part = its.0;
        g = at.g;
        track = its.1;
        place = at.place;
        within = at.within;
        is_cell = ap cell at.is_number;
        of_section = subst (λ n. IsTrackOfSection p n at.k) same its.1.own.section;
      }

  pub connected : (section : ℕ) → IsConnected i section
  unfolding AreJoinedTracks
  connected section e f e_in f_in =
      let one = of_track section e e_in in
      let other = of_track section f f_in in
      let joined : Reaches (Adjoin p) one.k other.k = net.connected.at_each section one.of_section.listed.part one.of_section.listed.is_section one.k other.k one.of_section other.of_section in
      let linked : Linked i [] (first_of one.k) (first_of other.k) = Reaches-map (Adjoin p) (Meet i []) first_of along one.k other.k joined in
      let firsts : Linked i [] (cell (one.g.first + 0)) (cell (other.g.first + 0)) =
      subst (λ c. Linked i [] c (cell (other.g.first + 0))) (first_is one.k one.part one.g one.track) (subst (λ c. Linked i [] (first_of one.k) c) (first_is other.k other.part other.g other.track) linked) in
      subst (λ c. Linked i [] c f) (sym one.is_cell)
      (subst (λ c. Linked i [] (cell (one.g.first + one.place)) c) (sym other.is_cell)
      (Reaches-trans (Meet i []) (cell (one.g.first + one.place)) (cell (one.g.first + 0)) (cell (other.g.first + other.place)) (to_first one.k one.g one.place one.track.is_grid one.within)
      (Reaches-trans (Meet i []) (cell (one.g.first + 0)) (cell (other.g.first + 0)) (cell (other.g.first + other.place)) firsts (from_first other.k other.g other.place other.track.is_grid other.within))))
