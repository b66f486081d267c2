-- The cells of a station, as marks by cell.
use Rattle.std.specs.Prelude.{◌≡◌, ◌<◌, ◌≤◌, ◌↔◌, ℕ, List, Bool, true, false, slice_index_or, Contains}
use Rattle.cell_net.specs.Runs.{IsCellOf, StandsIn}
use Rattle.cell_net.specs.declared.ids.CellId.{CellId}
use Rattle.cell_net.specs.declared.ids.StationId.{StationId}
use Rattle.cell_net.specs.declared.plans.TrainRun.{TrainRun}
use Rattle.cell_net.specs.declared.trains.StopSpec.{StopSpec}
use Rattle.cell_net.specs.declared.trains.TrainSpec.{TrainSpec}
use Rattle.cell_net.specs.declared.parts.InstanceParts.{InstanceParts}

-- exactly the cells of the station are marked
abbrev pub MarksStation : InstanceParts → StationId → List Bool → Type 0
MarksStation p s inside = (c : CellId) → (slice_index_or inside c.0 false ≡ true) ↔ IsCellOf p s c

-- exactly the listed cells are marked
abbrev pub MarksCells : List CellId → List Bool → Type 0
MarksCells cells inside = (c : CellId) → (slice_index_or inside c.0 false ≡ true) ↔ Contains cells c

-- the step is within the stop's window, and the train stands in its station
pub record CountsAt (p : InstanceParts) (t : TrainSpec) (r : TrainRun) (stop : StopSpec) (step : ℕ) : Type 0 where
  pub after : stop.from ≤ step
  pub before : step < stop.until
  pub stands : StandsIn p t r stop.station step
