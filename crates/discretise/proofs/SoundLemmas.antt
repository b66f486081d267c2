-- What is known of each track on the grid, and of each cell of the instance.
use Rattle.std.proofs.Common.{◌≡◌, ◌≢◌, ◌+◌, ◌-◌, ◌<◌, ◌≤◌, inl, inr, ℕ, List, [], ◌∷◌, length, Some, None, slice_get, refl, sym, ap, subst, ◌∙◌, arith}
use Rattle.std.specs.Prelude.{Option}
use Rattle.std.proofs.lemmas.List.Sums.{sum_by-cons}
use Rattle.std.proofs.lemmas.Option.{slice_get_within}
use Rattle.cell_net.specs.Rules.{IsGoodCell}
use Rattle.cell_net.specs.declared.ids.NodeId.{NodeId}
use Rattle.cell_net.specs.declared.cells.CellSpec.{CellSpec}
use Rattle.cell_net.specs.declared.parts.InstanceParts.{InstanceParts}
use Rattle.vss_lists.specs.Breaks.{HoldsOfEach}
use Rattle.rail_net.specs.Parts.{IsNode}
use Rattle.rail_net.specs.Refusals.{IsNet}
use Rattle.rail_net.specs.declared.parts.TrackPart.{TrackPart}
use Rattle.rail_net.specs.declared.parts.NetParts.{NetParts}
use Rattle.timetable.specs.Timetables.{IsTimetable}
use Rattle.timetable.specs.declared.parts.Timetable.{Timetable}
use Rattle.discretise.specs.Rounding.{length_in_cells, limit_of}
use Rattle.discretise.specs.Tracks.{AreGridTracks, AreLaid, cell_total, cut_total}
use Rattle.discretise.specs.Cells.{cell_in, cells_on, node_before}
use Rattle.discretise.specs.Refusals.{HasFewCells, HasSomeLimit}
use Rattle.discretise.specs.declared.tracks.GridTrack.{GridTrack}
use Rattle.discretise.proofs.ChainLemmas.{IsPlaced, chained, lies_within, node_cases, placed, rows_have, rows_length}
use Rattle.discretise.proofs.NetLemmas.{one_name, part_of}
use Rattle.discretise.proofs.TrackLemmas.{cells_together, node_there, some_cells}

laid_total : (p : NetParts) (t : Timetable) (number first cut : ℕ) (parts : List TrackPart) (gs : List GridTrack) → AreLaid p t number first cut parts gs → cell_total gs ≡ cells_together t parts
laid_total p t number first cut [] [] laid = refl
laid_total p t number first cut [] (g ∷ gs) laid = absurd laid
laid_total p t number first cut (x ∷ parts) [] laid = absurd laid
laid_total p t number first cut (x ∷ parts) (g ∷ gs) laid =
    let rest = laid_total p t (number + 1) (first + g.count) (cut + (g.count - 1)) parts gs laid.1 in
    let cells : cell_total (g ∷ gs) ≡ g.count + cell_total gs = sum_by-cons (λ (y : GridTrack). y.count) g gs in
    let own : cells_together t (x ∷ parts) ≡ length_in_cells t x.length_m + cells_together t parts = sum_by-cons (λ (y : TrackPart). length_in_cells t y.length_m) x parts in
    omega (arith, laid.0.count)

-- a track on the grid is sound: its numbers are in their ranges, and its nodes differ
pub record IsSound (p : NetParts) (gs : List GridTrack) (g : GridTrack) : Type 0 where
  pub some : 0 < g.count
  pub from : g.from < length p.nodes
  pub to : g.to < length p.nodes
  pub differ : g.from ≢ g.to
  pub cut_from : length p.nodes ≤ g.cut
  pub cut_to : g.cut + (g.count - 1) ≤ length p.nodes + cut_total gs
  pub cells : g.first + g.count ≤ cell_total gs
  pub moves : 0 < g.limit
  pub limited : g.limit ≤ 20
  pub section : g.section < length p.sections

limited_by : (t : Timetable) (limit : Option ℕ) → limit_of t limit ≤ 20
limited_by t None = omega arith
limited_by t (Some limit) = omega arith

module _ (p : NetParts) (t : Timetable) (gs : List GridTrack) (net : IsNet p) (timed : IsTimetable p t) (all : AreGridTracks p t gs) (limits : HoldsOfEach (HasSomeLimit t) p.tracks) where
  pub sound : (k : ℕ) (g : GridTrack) → slice_get gs k ≡ Some g → IsSound p gs g
  sound k g is =
      let at = part_of p t gs net all k g is in
      let part = at.0 in
      let own = at.1.own in
      let lies = lies_within 0 (length p.nodes) gs (chained p t gs all) k g is in
      let loop = net.no_loops.at_each k part at.1.is_part in
      record {
        some = subst (λ n. 0 < n) (sym own.count) (some_cells part.length_m t.space_step_m (net.lengths.at_each k part at.1.is_part).some timed.steps.some_space);
        from = node_there p g.from part.from own.from;
        to = node_there p g.to part.to own.to;
        differ = λ same. loop (one_name p t gs net all g.to part.from part.to (subst (IsNode p part.from) same own.from) own.to);
        cut_from = lies.cuts_from;
        cut_to = lies.cuts_to;
        cells = omega (arith, lies.cells_to);
        moves = subst (λ n. 0 < n) (sym own.limit) (limits.at_each k part at.1.is_part);
        limited = subst (λ n. n ≤ 20) (sym own.limit) (limited_by t part.limit_kmh);
        section = slice_get_within p.sections g.section own.section.listed.part own.section.listed.is_section;
      }

  pub few_cells : HasFewCells p t → cell_total gs ≤ 1000
  unfolding AreGridTracks
  few_cells few = subst (λ n. n ≤ 1000) (sym (laid_total p t 0 0 (length p.nodes) p.tracks gs all)) few

-- the node at a place of a sound track
pub node_below : (p : NetParts) (gs : List GridTrack) (g : GridTrack) → IsSound p gs g → (place : ℕ) → place ≤ g.count → node_before g place < length p.nodes + cut_total gs
node_below p gs g sound place within = elim (node_cases g place sound.some within) [
  | inl first ↦ omega (arith, first.1, sound.from)
  | inr others ↦ elim others [ inl last ↦ omega (arith, last.1, sound.to) | inr inner ↦ omega (arith, inner.0, inner.1, inner.2, sound.cut_to) ]
]

pub nodes_differ : (p : NetParts) (gs : List GridTrack) (g : GridTrack) → IsSound p gs g → (place : ℕ) → place < g.count → node_before g place ≢ node_before g (place + 1)
nodes_differ p gs g sound place below same =
    elim (node_cases g place sound.some (omega arith)) [
      | inl first ↦ elim (node_cases g (place + 1) sound.some (omega arith)) [
        | inl no_first ↦ omega (arith, no_first.0)
        | inr others ↦ elim others [
          | inl last ↦ sound.differ (sym first.1 ∙ (same ∙ last.1))
          | inr inner ↦ omega (arith, first.1, inner.2, sound.from, sound.cut_from)
        ]
      ]
      | inr others ↦ elim others [
        | inl last ↦ omega (arith, last.0)
        | inr inner ↦ elim (node_cases g (place + 1) sound.some (omega arith)) [
          | inl no_first ↦ omega (arith, no_first.0)
          | inr later ↦ elim later [ inl last ↦ omega (arith, inner.2, last.1, sound.to, sound.cut_from) | inr next ↦ omega (arith, inner.0, inner.2, next.2) ]
        ]
      ]
    ]

-- the cells of an instance that is cut from these tracks
module _ (p : NetParts) (t : Timetable) (gs : List GridTrack) (i : InstanceParts) (all : AreGridTracks p t gs) (cells : i.cells ≡ cells_on gs) where
  pub cell_here : (c : ℕ) (x : CellSpec) → slice_get i.cells c ≡ Some x → IsPlaced cell_in gs c x
  cell_here c x is = placed cell_in (length p.nodes) gs (chained p t gs all) c x (subst (λ cs. slice_get cs c ≡ Some x) cells is)

  pub here_cell : (k : ℕ) (g : GridTrack) (place : ℕ) → slice_get gs k ≡ Some g → place < g.count → slice_get i.cells (g.first + place) ≡ Some (cell_in g place)
  here_cell k g place is within = subst (λ cs. slice_get cs (g.first + place) ≡ Some (cell_in g place)) (sym cells) (rows_have cell_in (length p.nodes) gs (chained p t gs all) k g place is within)

  pub cell_count : length i.cells ≡ cell_total gs
  cell_count = ap length cells ∙ rows_length cell_in gs

  -- each cell is good
  module _ (net : IsNet p) (timed : IsTimetable p t) (limits : HoldsOfEach (HasSomeLimit t) p.tracks) (few : cell_total gs ≤ 1000) (nodes : i.nodes ≡ length p.nodes + cut_total gs) (sections : i.sections ≡ length p.sections) where
    good_at : (c : ℕ) (x : CellSpec) → IsPlaced cell_in gs c x → IsGoodCell i c x
    good_at c x at =
        let s = sound p t gs net timed all limits at.k at.g at.there in
        let low = node_below p gs at.g s at.place (omega (arith, at.within)) in
        let high = node_below p gs at.g s (at.place + 1) (omega (arith, at.within)) in
        let differ = nodes_differ p gs at.g s at.place at.within in
        subst (IsGoodCell i c) at.is (record {
          few = omega (arith, at.is_number, at.within, s.cells);
          low = omega (arith, low, nodes);
          high = omega (arith, high, nodes);
          section = omega (arith, s.section, sections);
          two_nodes = λ same. differ (ap (λ (m : NodeId). m.0) same);
          moves = s.moves;
          limited = s.limited;
        })

    pub good_cells : HoldsOfEach (IsGoodCell i) i.cells
    good_cells = record { at_each = λ c x is. good_at c x (cell_here c x is) }
