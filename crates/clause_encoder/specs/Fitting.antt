-- What a table and the numbers of a train have to do with one another.
use Rattle.std.specs.Prelude.{◌<◌, ◌≤◌, ℕ, List, All, filter, map, [], ◌∷◌}
use Rattle.std.specs.List.{flat_map}
use Rattle.cell_net.specs.declared.cells.DirCell.{DirCell}
use Rattle.sat_core.specs.declared.literal.Lit.{Lit}
use Rattle.sweep_table.specs.Tables.{Table, cells_of, is_entry}
use Rattle.clause_list.specs.Numbers.{CodedTrain, cone, is, is_not, sweep, touch}
use Rattle.clause_encoder.specs.TrainStore.{IsKeptTrain}

-- each cone has items of a table of so many alone, and the cells of each item are among those that have numbers
pub record Fits (count : ℕ) (table : Table) (a : CodedTrain) : Type 0 where
  pub kept : IsKeptTrain a
  pub items : (t : ℕ) → a.start ≤ t → t ≤ a.by → All (λ w. w < count) (cone a t)
  pub cells : (w : ℕ) → w < count → All (λ d. d.cell.0 < a.cells) (cells_of table w)

-- the stations of a train's stops are among so many
abbrev pub HasStations : ℕ → CodedTrain → Type 0
HasStations count a = All (λ stop. stop.station.0 < count) a.stops

-- the entries among the items, at a step
abbrev pub entering : Table → CodedTrain → ℕ → List ℕ → List Lit
entering table a t items = map (λ w. is (sweep a t w)) (filter (is_entry table) items)

-- the item of that variable touches the cells at the step
abbrev pub touching_one : CodedTrain → ℕ → ℕ → DirCell → List (List Lit)
touching_one a t v directed = (is_not v ∷ is (touch a t directed.cell.0) ∷ []) ∷ []

unfoldable pub touching_all : CodedTrain → ℕ → ℕ → List DirCell → List (List Lit)
touching_all a t v cells = flat_map (touching_one a t v) cells
