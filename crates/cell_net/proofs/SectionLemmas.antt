-- Sections are connected where their parts of segments are.
use Rattle.std.proofs.Common.{◌≤◌, ◌↔◌, inl, inr, ℕ, [], map, Option, Some, None, MatchOption, ◌∙◌, ap, arith}
use Rattle.std.proofs.lemmas.Bool.{cases_lt}
use Rattle.vss_lists.specs.Breaks.{FailsFirstAt, HoldsOfEach, HoldsOfNumbers}
use Rattle.cell_net.specs.Borders.{IsInSection}
use Rattle.cell_net.specs.Rules.{IsGoodCell}
use Rattle.cell_net.specs.Sections.{IsConnected}
use Rattle.cell_net.specs.Segments.{AreBarriers, segment_of}
use Rattle.cell_net.specs.declared.ids.CellId.{CellId}
use Rattle.cell_net.specs.declared.parts.InstanceParts.{InstanceParts}
use Rattle.cell_net.proofs.SegmentLemmas.{cell_at, linked_as_reached, segment_at}
use Rattle.node_groups.specs.Parts.{IsConnectedPart, IsOfPart, Finds}
use Rattle.node_groups.specs.declared.segments.Segment.{Segment}

no_barriers : (p : InstanceParts) → AreBarriers p [] []
no_barriers p n = (λ there. absurd (omega (arith, there.1)), λ border. absurd (omega (arith, border.2)))

-- the section of the instance against the part of its segments
module _ (p : InstanceParts) (s : ℕ) where
  part_of_cell : (c : CellId) → IsInSection p s c → IsOfPart (map segment_of p.cells) s c.0
  part_of_cell c is = record { segment = segment_of is.cell; is = segment_at p.cells c.0 is.cell is.is; of_part = is.of_section }

  cell_of_part : (k : ℕ) → IsOfPart (map segment_of p.cells) s k → IsInSection p s (record { 0 = k })
  cell_of_part k is =
      let (cell, at, same) = cell_at p.cells k is.segment is.is in
      record { cell = cell; is = at; of_section = ap (λ (t : Segment). t.part) same ∙ is.of_part }

  connected : IsConnectedPart (map segment_of p.cells) s ↔ IsConnected p s
  connected = (
    λ all e f e_in f_in. (linked_as_reached p [] [] (no_barriers p) e f).1 (all e.0 f.0 (part_of_cell e e_in) (part_of_cell f f_in)),
    λ all i j i_in j_in. (linked_as_reached p [] [] (no_barriers p) (record { 0 = i }) (record { 0 = j })).0
        (all (record { 0 = i }) (record { 0 = j }) (cell_of_part i i_in) (cell_of_part j j_in)),
  )

  -- a number past the last section has no cells
  connected_past : HoldsOfEach (IsGoodCell p) p.cells → p.sections ≤ s → IsConnected p s
  connected_past cells past e f e_in f_in =
      absurd (let good = cells.at_each e.0 e_in.cell e_in.is in omega (arith, good.section, e_in.of_section))

pub first_bad : (p : InstanceParts) → HoldsOfEach (IsGoodCell p) p.cells → (first : Option ℕ) → Finds (IsConnectedPart (map segment_of p.cells)) first →
    MatchOption first (HoldsOfNumbers (IsConnected p) p.sections) (FailsFirstAt (IsConnected p) p.sections)
first_bad p cells None all = record { at_each = λ s within. (connected p s).0 (all s) }
first_bad p cells (Some s) found = record {
  within = elim (cases_lt s p.sections) [ inl within ↦ within | inr past ↦ absurd (found.fails ((connected p s).1 (connected_past p s cells past))) ];
  before = λ lower lt. (connected p lower).0 (found.before lower lt);
  fails = λ good. found.fails ((connected p s).1 good);
}
