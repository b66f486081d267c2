-- How far paths can go on from each directed cell, which only this crate's code and proofs see.
use Rattle.std.specs.Prelude.{◌≡◌, ◌<◌, ◌≤◌, ◌+◌, ◌-◌, ◌*◌, ℕ, List, [], length, slice_index_or}
use Rattle.cell_net.specs.declared.cells.DirCell.{DirCell}
use Rattle.cell_net.specs.declared.parts.InstanceParts.{InstanceParts}
use Rattle.sweep_table.specs.Growing.{branch, grown}
use Rattle.sweep_table.specs.Order.{directed_number}

-- whatever the path, none comes of it that goes on with the directed cell by so many cells
unfoldable pub IsDeadEnd : InstanceParts → ℕ → List (List DirCell) → ℕ → ℕ → DirCell → Type 0
IsDeadEnd p train after count more d = (path : List DirCell) → branch p train after count (grown p train after count (more - 1)) path d ≡ []

-- the number of the directed cell
abbrev pub reach_of : List ℕ → DirCell → ℕ
reach_of reach d = slice_index_or reach (directed_number d) 0

-- for each directed cell a number: to go on with it by more cells is a dead end, up to one cell more than
-- these rounds before the place, and up to so many from there on
pub record IsReachBelow (p : InstanceParts) (train : ℕ) (after : List (List DirCell)) (count rounds place : ℕ) (reach : List ℕ) : Type 0 where
  pub for_each : length reach ≡ 2 * length p.cells
  pub earlier : (d : DirCell) (more : ℕ) → directed_number d < place → more ≤ rounds + 1 → reach_of reach d < more → IsDeadEnd p train after count more d
  pub each : (d : DirCell) (more : ℕ) → directed_number d < length reach → more ≤ rounds → reach_of reach d < more → IsDeadEnd p train after count more d

-- the same up to so many cells everywhere
abbrev pub IsReach : InstanceParts → ℕ → List (List DirCell) → ℕ → ℕ → List ℕ → Type 0
IsReach p train after count rounds = IsReachBelow p train after count rounds 0
