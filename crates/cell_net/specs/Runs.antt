-- Time and trains: sweeps, which are what a train touches in one step, and runs from entry to goal.
use Rattle.std.specs.Prelude.{◌≡◌, ◌<◌, ◌≤◌, ◌+◌, ◌-◌, ℕ, List, length, All, Some, slice_get, Contains, take, drop}
use Rattle.std.specs.List.{AllAdjacentBelow}
use Rattle.cell_net.specs.Space.{IsTrackPath}
use Rattle.cell_net.specs.declared.ids.CellId.{CellId}
use Rattle.cell_net.specs.declared.ids.StationId.{StationId}
use Rattle.cell_net.specs.declared.cells.DirCell.{DirCell}
use Rattle.cell_net.specs.declared.cells.CellSpec.{CellSpec}
use Rattle.cell_net.specs.declared.trains.StopSpec.{StopSpec}
use Rattle.cell_net.specs.declared.trains.TrainSpec.{TrainSpec}
use Rattle.cell_net.specs.declared.plans.Sweep.{Sweep}
use Rattle.cell_net.specs.declared.plans.TrainRun.{TrainRun}
use Rattle.cell_net.specs.declared.parts.InstanceParts.{InstanceParts}

-- so many cells are the train's length and an advance that the limit of this cell allows
abbrev pub IsWithinLimit : InstanceParts → TrainSpec → ℕ → DirCell → Type 0
IsWithinLimit p t count d = (cell : CellSpec) → slice_get p.cells d.cell.0 ≡ Some cell → count ≤ t.length + cell.limit

-- the advance, which is the count of cells above the train's length, is at most the train's own
-- greatest one and at most the limit of each of the cells
pub record IsSlowEnough (p : InstanceParts) (t : TrainSpec) (cells : List DirCell) : Type 0 where
  pub by_train : length cells ≤ t.length + t.advance
  pub by_cells : All (IsWithinLimit p t (length cells)) cells

-- a sweep of the train: a track path as long as the train and an advance that is slow enough
pub record IsSweep (p : InstanceParts) (t : TrainSpec) (cells : List DirCell) : Type 0 where
  pub path : IsTrackPath p cells
  pub long_enough : t.length ≤ length cells
  pub slow_enough : IsSlowEnough p t cells

-- the next sweep goes on from this one: the last cells of this one, as many as the train is long,
-- are the first cells of the next
abbrev pub Continues : TrainSpec → List DirCell → List DirCell → Type 0
Continues t cells next = drop (length cells - t.length) cells ≡ take t.length next

-- the run begins within the train's window of entry, with the train's entry cell
pub record Enters (t : TrainSpec) (r : TrainRun) : Type 0 where
  pub not_early : t.start ≤ r.start
  pub not_late : r.start ≤ t.latest
  pub first : Sweep
  pub is_first : slice_get r.sweeps 0 ≡ Some first
  pub with_entry : slice_get first.cells 0 ≡ Some t.entry

-- the run's last sweep ends with the goal cell, at a step that isn't too late
pub record Arrives (t : TrainSpec) (r : TrainRun) : Type 0 where
  pub last : Sweep
  pub is_last : slice_get r.sweeps (length r.sweeps - 1) ≡ Some last
  pub with_goal : slice_get last.cells (length last.cells - 1) ≡ Some t.goal
  pub in_time : r.start + length r.sweeps ≤ t.by + 1

-- the run has this sweep at the step
pub record IsSweepAt (r : TrainRun) (step : ℕ) (sweep : Sweep) : Type 0 where
  pub begun : r.start ≤ step
  pub is_there : slice_get r.sweeps (step - r.start) ≡ Some sweep

-- the cell is one of the station's
unfoldable pub IsCellOf : InstanceParts → StationId → CellId → Type 0
IsCellOf p s c = (cells : List CellId) × (slice_get p.stations s.0 ≡ Some cells) × Contains cells c

-- at the step the train stands wholly in the station
pub record StandsIn (p : InstanceParts) (t : TrainSpec) (r : TrainRun) (s : StationId) (step : ℕ) : Type 0 where
  pub sweep : Sweep
  pub is_there : IsSweepAt r step sweep
  pub stands : length sweep.cells ≡ t.length
  pub inside : All (λ d. IsCellOf p s d.cell) sweep.cells

-- the stop is met: within its window there are as many steps in a row as it asks for at which the
-- train stands wholly in the station
unfoldable pub IsMet : InstanceParts → TrainSpec → TrainRun → StopSpec → Type 0
IsMet p t r stop = (s : ℕ) × (stop.from ≤ s) × (s + stop.dwell ≤ stop.until) ×
    ((step : ℕ) → s ≤ step → step < s + stop.dwell → StandsIn p t r stop.station step)

-- a run of the train, from its entry cell within its window to its goal cell in time, over sweeps each
-- of which goes on from the one before, with every stop met
pub record IsRun (p : InstanceParts) (t : TrainSpec) (r : TrainRun) : Type 0 where
  pub enters : Enters t r
  pub sweeps : All (λ w. IsSweep p t w.cells) r.sweeps
  pub goes_on : AllAdjacentBelow (λ w next. Continues t w.cells next.cells) r.sweeps (length r.sweeps)
  pub arrives : Arrives t r
  pub stops : All (IsMet p t r) t.stops
