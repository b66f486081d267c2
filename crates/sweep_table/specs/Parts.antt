-- What contracts see of a sweep table, and the table of moves that it is on an instance.
use Rattle.std.specs.Prelude.{◌≡◌, ◌<◌, ◌≤◌, ◌-◌, ◌&&◌, ℕ, Bool, false, List, [], Option, Some, None, length, map, All, slice_get, slice_index_or, nat_eq}
use Rattle.std.specs.List.{list_any, list_all}
use Rattle.cell_net.specs.Rules.{IsInstance}
use Rattle.cell_net.specs.declared.ids.CellId.{CellId}
use Rattle.cell_net.specs.declared.cells.DirCell.{DirCell}
use Rattle.cell_net.specs.declared.trains.TrainSpec.{TrainSpec}
use Rattle.cell_net.specs.declared.parts.InstanceParts.{InstanceParts}
use Rattle.sweep_table.specs.Order.{directed_number}
use Rattle.sweep_table.specs.Tables.{Table}
use Rattle.sweep_table.specs.declared.ids.SweepId.{SweepId}

-- what contracts see of a sweep table: the train's length, entry and goal, its sweeps, and for each
-- those that go on from it and those that it goes on from
pub record SweepParts : Type 0 where
  pub train : ℕ
  pub entry : DirCell
  pub goal : DirCell
  pub sweeps : List (List DirCell)
  pub next : List (List SweepId)
  pub prev : List (List SweepId)

-- the group with that number
abbrev pub group_of : List (List SweepId) → ℕ → List SweepId
group_of groups number = slice_index_or groups number []

-- whether this is that directed cell
abbrev pub is_directed : DirCell → Option DirCell → Bool
is_directed d None = false
is_directed d (Some c) = nat_eq (directed_number c) (directed_number d)

-- whether the cells begin with the directed cell, and whether they end with it
unfoldable pub begins_with : DirCell → List DirCell → Bool
begins_with d cells = is_directed d (slice_get cells 0)

unfoldable pub ends_with : DirCell → List DirCell → Bool
ends_with d cells = is_directed d (slice_get cells (length cells - 1))

-- whether the station's cells hold this one
unfoldable pub has_station_cell : List CellId → DirCell → Bool
has_station_cell station d = list_any (λ c. nat_eq c.0 d.cell.0) station

-- whether the sweep stands, wholly in the station of these cells
unfoldable pub stands_within : ℕ → List CellId → List DirCell → Bool
stands_within train station cells = nat_eq (length cells) train && list_all (has_station_cell station) cells

-- the cells of the station with that number
abbrev pub cells_of_station : InstanceParts → ℕ → List CellId
cells_of_station p station = slice_index_or p.stations station []

-- the table of moves of the sweeps on the instance
abbrev pub table_of : InstanceParts → SweepParts → Table
table_of p s = record {
  cells = s.sweeps;
  next = s.next;
  prev = s.prev;
  entries = map (begins_with s.entry) s.sweeps;
  goals = map (ends_with s.goal) s.sweeps;
  stands = λ station. map (stands_within s.train (cells_of_station p station)) s.sweeps;
}

-- the numbers of groups are such numbers, one for each sweep, and there are not too many
pub record NameGroups (sweeps : List (List DirCell)) (numbers : List ℕ) (groups : List (List SweepId)) : Type 0 where
  pub few : length sweeps ≤ 50000
  pub for_each : length numbers ≡ length sweeps
  pub in_range : All (λ n. n < length groups) numbers

-- the parts keep the rules, and the train is one of them
pub record IsOfTrain (p : InstanceParts) (t : TrainSpec) : Type 0 where
  pub rules : IsInstance p
  pub place : ℕ
  pub is : slice_get p.trains place ≡ Some t
