-- How sweeps grow, cell by cell, which only this crate's code and proofs see.
use Rattle.std.specs.Prelude.{◌≡◌, ◌<◌, ◌+◌, ◌*◌, ◌↔◌, ◌&&◌, ◌∷◌, ◌++◌, ℕ, zero, suc, Bool, not, List, [], Option, Some, None, length, cond, slice_get, slice_index_or, Contains, nat_eq, nat_le}
use Rattle.std.specs.List.{list_any, flat_map, range_with_len, AllPairs}
use Rattle.cell_net.specs.Space.{Follows}
use Rattle.cell_net.specs.declared.cells.End.TheVariants.{Low, High}
use Rattle.cell_net.specs.declared.cells.DirCell.{DirCell}
use Rattle.cell_net.specs.declared.cells.CellSpec.{CellSpec}
use Rattle.cell_net.specs.declared.parts.InstanceParts.{InstanceParts}
use Rattle.sweep_table.specs.Order.{directed_number}
use Rattle.sweep_table.specs.declared.refusal.TableRefusal.{TableRefusal}
use Rattle.sweep_table.specs.declared.refusal.TableRefusal.TheVariants.{TooManySweeps, Memory}

-- the cell towards its low end, and towards its high end
abbrev pub lowward : ℕ → DirCell
lowward cell = record { cell = record { 0 = cell }; end = Low }

abbrev pub highward : ℕ → DirCell
highward cell = record { cell = record { 0 = cell }; end = High }

-- the directed cells of one cell, by their numbers
unfoldable pub both_ways : ℕ → List DirCell
both_ways cell = lowward cell ∷ highward cell ∷ []

-- all directed cells of so many cells, by their numbers
abbrev pub directed : ℕ → List DirCell
directed count = flat_map both_ways (range_with_len 0 count)

-- all directed cells that follow the one before, by their numbers
pub record AreFollowers (p : InstanceParts) (before : DirCell) (found : List DirCell) : Type 0 where
  pub follow : (e : DirCell) → Contains found e ↔ ((directed_number e < 2 * length p.cells) × Follows p before e)
  pub rising : AllPairs (λ e f. directed_number e < directed_number f) found

-- what follows a directed cell, in the list of these by number
abbrev pub after_of : List (List DirCell) → DirCell → List DirCell
after_of after d = slice_index_or after (directed_number d) []

-- the list holds for each directed cell those that follow it
pub record AreAfter (p : InstanceParts) (after : List (List DirCell)) : Type 0 where
  pub for_each : length after ≡ 2 * length p.cells
  pub each : (d : DirCell) → directed_number d < 2 * length p.cells → AreFollowers p d (after_of after d)

-- the limit of a directed cell's cell
abbrev pub limit_in : Option CellSpec → ℕ
limit_in None = 0
limit_in (Some cell) = cell.limit

abbrev pub cell_limit : InstanceParts → DirCell → ℕ
cell_limit p d = limit_in (slice_get p.cells d.cell.0)

-- whether the path has the cell
abbrev pub path_has_cell : List DirCell → DirCell → Bool
path_has_cell path d = list_any (λ c. nat_eq c.cell.0 d.cell.0) path

-- whether the path to be of so many cells may go on with the directed cell: it doesn't have its cell,
-- and a train of this length may advance so far over it
unfoldable pub may_go_on : InstanceParts → ℕ → ℕ → List DirCell → DirCell → Bool
may_go_on p train count path d = not (path_has_cell path d) && nat_le count (train + cell_limit p d)

-- the paths that go on with the directed cell, if the path may: the rest of them, by what follows it
unfoldable pub branch : InstanceParts → ℕ → List (List DirCell) → ℕ → (List DirCell → List DirCell → List (List DirCell)) → List DirCell → DirCell → List (List DirCell)
branch p train after count rest path d = cond (may_go_on p train count path d) (rest (after_of after d) (path ++ d ∷ [])) []

-- the paths to be of so many cells that lengthen this one by so many, the first of them among the next
unfoldable pub grown : InstanceParts → ℕ → List (List DirCell) → ℕ → ℕ → List DirCell → List DirCell → List (List DirCell)
grown p train after count zero next path = path ∷ []
grown p train after count (suc more) next path = flat_map (branch p train after count (grown p train after count more) path) next

-- all paths of so many cells, one at least
abbrev pub all_grown : InstanceParts → ℕ → List (List DirCell) → ℕ → List (List DirCell)
all_grown p train after count = grown p train after count count (directed (length p.cells)) []

-- all paths of the train's length and this advance
unfoldable pub grown_by_advance : InstanceParts → ℕ → List (List DirCell) → ℕ → List (List DirCell)
grown_by_advance p train after advance = all_grown p train after (train + advance)

-- all paths of advances below this one, by the advance
abbrev pub sweeps_below : InstanceParts → ℕ → List (List DirCell) → ℕ → List (List DirCell)
sweeps_below p train after advances = flat_map (grown_by_advance p train after) (range_with_len 0 advances)

-- with these paths more there are too many; want of memory has no cause
abbrev pub IsGrowthFault : List (List DirCell) → List (List DirCell) → TableRefusal → Type 0
IsGrowthFault before more TooManySweeps = 50000 < length before + length more
IsGrowthFault before more Memory = Unit {0}
