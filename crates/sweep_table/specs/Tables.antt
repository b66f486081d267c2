-- Tables of moves: what a train may touch in a step, and what may come after what.
use Rattle.std.specs.Prelude.{◌≡◌, ◌<◌, ◌↔◌, ℕ, Bool, false, List, [], length, All, Contains, slice_index_or}
use Rattle.std.specs.List.{AllAdjacentBelow}
use Rattle.cell_net.specs.Space.{IsCell}
use Rattle.cell_net.specs.declared.cells.DirCell.{DirCell}
use Rattle.cell_net.specs.declared.parts.InstanceParts.{InstanceParts}
use Rattle.sweep_table.specs.declared.ids.SweepId.{SweepId}

-- a table: the cells of each item, the items that may come after it, those that it may come after,
-- whether it is an entry, whether it is a goal, and, station by station, whether it stands there
pub record Table : Type 0 where
  pub cells : List (List DirCell)
  pub next : List (List SweepId)
  pub prev : List (List SweepId)
  pub entries : List Bool
  pub goals : List Bool
  pub stands : ℕ → List Bool

-- the cells of the item
abbrev pub cells_of : Table → ℕ → List DirCell
cells_of table item = slice_index_or table.cells item []

-- the items that may come after the item
abbrev pub next_of : Table → ℕ → List SweepId
next_of table item = slice_index_or table.next item []

-- the items that the item may come after
abbrev pub prev_of : Table → ℕ → List SweepId
prev_of table item = slice_index_or table.prev item []

-- whether the item is an entry
abbrev pub is_entry : Table → ℕ → Bool
is_entry table item = slice_index_or table.entries item false

-- whether the item is a goal
abbrev pub is_goal : Table → ℕ → Bool
is_goal table item = slice_index_or table.goals item false

-- whether the item stands in the station of that number
abbrev pub stands_in : Table → ℕ → ℕ → Bool
stands_in table station item = slice_index_or (table.stands station) item false

-- the numbers rise, so no item comes twice
abbrev pub Rises : List SweepId → Type 0
Rises ids = AllAdjacentBelow (λ v w. v.0 < w.0) ids (length ids)

-- each is an item of a table of so many
abbrev pub AreItems : ℕ → List SweepId → Type 0
AreItems count = All (λ v. v.0 < count)

-- what every table keeps: each list has an entry for each item; the cells of an item are cells of
-- the instance; the items after one and before one are items and rise; and an item is among those
-- after another exactly where the other is among those before it, also where the two are one
pub record IsTable (p : InstanceParts) (table : Table) : Type 0 where
  pub next_for_each : length table.next ≡ length table.cells
  pub prev_for_each : length table.prev ≡ length table.cells
  pub entries_for_each : length table.entries ≡ length table.cells
  pub goals_for_each : length table.goals ≡ length table.cells
  pub stands_for_each : (station : ℕ) → length (table.stands station) ≡ length table.cells
  pub cells : All (All (λ d. IsCell p d.cell)) table.cells
  pub next_are_items : All (AreItems (length table.cells)) table.next
  pub next_rise : All Rises table.next
  pub prev_are_items : All (AreItems (length table.cells)) table.prev
  pub prev_rise : All Rises table.prev
  pub converse : (v w : SweepId) → v.0 < length table.cells → w.0 < length table.cells →
      Contains (next_of table v.0) w ↔ Contains (prev_of table w.0) v
