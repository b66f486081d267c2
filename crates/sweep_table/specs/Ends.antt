-- The first and the last cells of each sweep, by the place of the sweep that they are.
use Rattle.std.specs.Prelude.{◌≡◌, ◌<◌, ◌≤◌, ◌-◌, ℕ, List, length, All, AllPairs, Some, slice_get, slice_index, Contains, take, drop}
use Rattle.cell_net.specs.declared.cells.DirCell.{DirCell}
use Rattle.sweep_table.specs.Order.{IsSweepBefore}

-- the first cells, and the last ones
abbrev pub first_cells : ℕ → List DirCell → List DirCell
first_cells train cells = take train cells

abbrev pub last_cells : ℕ → List DirCell → List DirCell
last_cells train cells = drop (length cells - train) cells

-- the sweeps of a train of so many cells are in order, not too many, and have those that are the
-- first and the last cells of each
pub record HaveEnds (train : ℕ) (sweeps : List (List DirCell)) : Type 0 where
  pub few : length sweeps ≤ 50000
  pub order : AllPairs IsSweepBefore sweeps
  pub long : All (λ w. train ≤ length w) sweeps
  pub first : All (λ w. Contains sweeps (first_cells train w)) sweeps
  pub last : All (λ w. Contains sweeps (last_cells train w)) sweeps

-- for each sweep below the place, the place of the sweep that is this part of it
pub record ArePlacesBelow (sweeps : List (List DirCell)) (part : List DirCell → List DirCell) (below : ℕ) (places : List ℕ) : Type 0 where
  pub for_each : length places ≡ below
  pub in_range : All (λ k. k < length sweeps) places
  pub each : (k : ℕ) (cells : List DirCell) → k < below → slice_get sweeps k ≡ Some cells → slice_get sweeps (slice_index places k) ≡ Some (part cells)

-- for each sweep, the place of the sweep that is this part of it
abbrev pub ArePlaces : List (List DirCell) → (List DirCell → List DirCell) → List ℕ → Type 0
ArePlaces sweeps part = ArePlacesBelow sweeps part (length sweeps)
