-- The names of cells and places as they were read of a text.
use Rattle.std.specs.Prelude.{◌≡◌, ℕ, List, All, Option, Some, None, map}
use Rattle.std.specs.List.{flat_map}
use Rattle.cell_net.specs.declared.cells.DirCell.{DirCell}
use Rattle.cell_net.specs.declared.labels.Labels.{Labels}
use Rattle.cell_net.specs.declared.plans.Sweep.{Sweep}
use Rattle.vss_report.specs.DesignFaults.{HasCells}
use Rattle.vss_report.specs.Fits.{IsKnownCell}
use Rattle.vss_report.specs.Lines.{CellName, PlaceName, cut, joint, spaced, IsSpelledCell}
use Rattle.vss_report.specs.Names.{cell_named}
use Rattle.vss_report.specs.declared.cells.NamedCell.{NamedCell}
use Rattle.vss_report.specs.declared.place_finder.NamedPlace.{NamedPlace}
use Rattle.vss_report.specs.declared.place_finder.NamedPlace.TheVariants as named

abbrev pub name_of_cell : NamedCell → CellName
name_of_cell cell = record { track = cell.track.now; index = cell.index; end = cell.end }

abbrev pub name_of_place : NamedPlace → PlaceName
name_of_place (named.Cut track at_m) = cut track.now at_m
name_of_place (named.Joint name) = joint name.now

-- the directed cell of that number, which heads to the end that the name tells
abbrev pub cell_at : ℕ → NamedCell → DirCell
cell_at place cell = record { cell = record { 0 = place }; end = cell.end }

-- the text of these cells, a blank before each
pub record IsTextOfCells (text : List ℕ) (cells : List CellName) : Type 0 where
  pub spelled : All IsSpelledCell cells
  pub are : text ≡ flat_map spaced cells

-- the text is that of some cells
pub record IsCellsText (text : List ℕ) : Type 0 where
  pub cells : List CellName
  pub is_text : IsTextOfCells text cells

-- the sweep is the one of the cells of the text, or the scene lacks one of them
abbrev pub IsSweepOf : Labels → List ℕ → Option Sweep → Type 0
IsSweepOf labels text (Some s) = (cells : List CellName) → IsTextOfCells text cells → (map (cell_named labels) s.cells ≡ cells) × HasCells labels s
IsSweepOf labels text None = (cells : List CellName) → IsTextOfCells text cells → ¬ All (IsKnownCell labels) cells
