-- The rules that the parts of an instance keep.
use Rattle.std.specs.Prelude.{◌≡◌, ◌≢◌, ◌<◌, ◌≤◌, ◌+◌, ◌^◌, ◌⊎◌, ℕ, List, length, All, Some, slice_get}
use Rattle.vss_lists.specs.Breaks.{HoldsOfEach, HoldsOfNumbers}
use Rattle.cell_net.specs.Space.{IsCell}
use Rattle.cell_net.specs.Borders.{IsAboveLast, IsCellAt, IsInSection, RisesAt}
use Rattle.cell_net.specs.Sections.{IsConnected}
use Rattle.cell_net.specs.declared.limits.TheConstants.{ADVANCE, CANDIDATES, CELLS, LENGTH, STEPS, TRAINS}
use Rattle.cell_net.specs.declared.ids.CandidateId.{CandidateId}
use Rattle.cell_net.specs.declared.ids.CellId.{CellId}
use Rattle.cell_net.specs.declared.ids.NodeId.{NodeId}
use Rattle.cell_net.specs.declared.cells.End.{End}
use Rattle.cell_net.specs.declared.cells.End.TheVariants.{Low, High}
use Rattle.cell_net.specs.declared.cells.CellEnd.{CellEnd}
use Rattle.cell_net.specs.declared.cells.CellSpec.{CellSpec}
use Rattle.cell_net.specs.declared.cells.JoinSpec.{JoinSpec}
use Rattle.cell_net.specs.declared.trains.StopSpec.{StopSpec}
use Rattle.cell_net.specs.declared.trains.TrainSpec.{TrainSpec}
use Rattle.cell_net.specs.declared.parts.InstanceParts.{InstanceParts}

-- there is a time step, and no more than the limit
pub record HasGoodSteps (p : InstanceParts) : Type 0 where
  pub some : 0 < p.steps
  pub few : p.steps ≤ STEPS

-- one of the first cells, up to their limit, between two different nodes, in a section, in which a train can
-- advance
pub record IsGoodCell (p : InstanceParts) (place : ℕ) (c : CellSpec) : Type 0 where
  pub few : place < CELLS
  pub low : c.low.0 < p.nodes
  pub high : c.high.0 < p.nodes
  pub section : c.section.0 < p.sections
  pub two_nodes : c.low ≢ c.high
  pub moves : 0 < c.limit
  pub limited : c.limit ≤ ADVANCE

-- the node at an end of a cell
abbrev pub node_at : CellSpec → End → NodeId
node_at c Low = c.low
node_at c High = c.high

-- the end is one of a cell of the instance, and this is its node
unfoldable pub IsNodeOf : InstanceParts → CellEnd → NodeId → Type 0
IsNodeOf p e n = (c : CellSpec) × (slice_get p.cells e.cell.0 ≡ Some c) × (node_at c e.end ≡ n)

-- a join is between two different ends of cells at one node
pub record IsGoodJoin (p : InstanceParts) (place : ℕ) (j : JoinSpec) : Type 0 where
  pub two_ends : j.one ≢ j.other
  pub node : NodeId
  pub at_one : IsNodeOf p j.one node
  pub at_other : IsNodeOf p j.other node

-- two different cells of one section have the node at an end, and no third cell has
pub record JoinsTwoCells (p : InstanceParts) (n : NodeId) : Type 0 where
  pub one : CellId
  pub other : CellId
  pub section : ℕ
  pub are_two : one ≢ other
  pub one_at : IsCellAt p one n
  pub other_at : IsCellAt p other n
  pub one_in : IsInSection p section one
  pub other_in : IsInSection p section other
  pub no_third : (c : CellId) → IsCellAt p c n → (c ≡ one) ⊎ (c ≡ other)

-- one of the first candidates, up to their limit, above the one before it, is a node of the instance that
-- joins two cells
pub record IsGoodCandidate (p : InstanceParts) (place : ℕ) (n : NodeId) : Type 0 where
  pub few : place < CANDIDATES
  pub rises : IsAboveLast (λ m. m.0) p.candidates place n
  pub in_range : n.0 < p.nodes
  pub joins : JoinsTwoCells p n

-- the kept candidates rise and are candidates
pub record IsGoodKept (p : InstanceParts) (place : ℕ) (k : CandidateId) : Type 0 where
  pub rises : RisesAt p.kept place k
  pub in_range : k.0 < length p.candidates

-- a station has at least one cell, and cells of the instance alone
pub record IsGoodStation (p : InstanceParts) (place : ℕ) (cells : List CellId) : Type 0 where
  pub some : 0 < length cells
  pub in_range : All (IsCell p) cells

-- a stop is at a station of the instance, for at least one step, and its window is wide enough
pub record IsGoodStop (p : InstanceParts) (s : StopSpec) : Type 0 where
  pub station : s.station.0 < length p.stations
  pub stands : 0 < s.dwell
  pub fits : s.from + s.dwell ≤ s.until

-- one of the first trains, up to their limit, of some cells but not too many, that can advance but not too
-- fast, between two cells of the instance, entering within a window of steps that its last step doesn't
-- precede, in time, with good stops
pub record IsGoodTrain (p : InstanceParts) (place : ℕ) (t : TrainSpec) : Type 0 where
  pub few : place < TRAINS
  pub long : 0 < t.length
  pub short : t.length ≤ LENGTH
  pub moves : 0 < t.advance
  pub limited : t.advance ≤ ADVANCE
  pub entry : IsCell p t.entry.cell
  pub goal : IsCell p t.goal.cell
  pub window : t.start ≤ t.latest
  pub in_order : t.latest ≤ t.by
  pub in_time : t.by < p.steps
  pub stops : All (IsGoodStop p) t.stops

-- no train has 4,294,967,296 stops or more, which a caller of `build` knows
abbrev pub HasFewStops : InstanceParts → Type 0
HasFewStops p = All (λ t. length t.stops < 2 ^ 32) p.trains

-- the parts keep every rule
pub record IsInstance (p : InstanceParts) : Type 0 where
  pub steps : HasGoodSteps p
  pub cells : HoldsOfEach (IsGoodCell p) p.cells
  pub joins : HoldsOfEach (IsGoodJoin p) p.joins
  pub sections : HoldsOfNumbers (IsConnected p) p.sections
  pub candidates : HoldsOfEach (IsGoodCandidate p) p.candidates
  pub kept : HoldsOfEach (IsGoodKept p) p.kept
  pub stations : HoldsOfEach (IsGoodStation p) p.stations
  pub trains : HoldsOfEach (IsGoodTrain p) p.trains
  pub few_cells : length p.cells ≤ CELLS
  pub few_candidates : length p.candidates ≤ CANDIDATES
  pub few_trains : length p.trains ≤ TRAINS
  pub few_stops : HasFewStops p
