-- Which line fits a scene behind those before it, and what is wrong of one that doesn't.
use Rattle.std.specs.Prelude.{◌≡◌, ◌⊎◌, ◌<◌, ◌≤◌, ◌++◌, ℕ, List, [], ◌∷◌, All, Some, Contains, IsTrue, slice_get, length}
use Rattle.cell_net.specs.declared.cells.DirCell.{DirCell}
use Rattle.cell_net.specs.declared.ids.CandidateId.{CandidateId}
use Rattle.cell_net.specs.declared.labels.Labels.{Labels}
use Rattle.vss_report.specs.Designs.{has_design, borders_in, runs_begun}
use Rattle.vss_report.specs.Lines.{ReportLine, CellName, PlaceName, border, run, sweep, smaller_none, refutes, end_line}
use Rattle.vss_report.specs.Names.{IsNamedCell, IsPlaceOf}

-- the scene has a cell of that name
pub record IsKnownCell (labels : Labels) (name : CellName) : Type 0 where
  pub cell : DirCell
  pub is_cell : IsNamedCell labels name cell

-- the scene has no place of that name, no train
abbrev pub IsUnknownPlace : Labels → PlaceName → Type 0
IsUnknownPlace labels name = (candidate : CandidateId) → ¬ IsPlaceOf labels name candidate

abbrev pub IsUnknownTrain : Labels → List ℕ → Type 0
IsUnknownTrain labels train = ¬ Contains labels.trains train

-- the border in the last of the lines that have one
pub record IsLastBorder (labels : Labels) (lines : List ReportLine) (candidate : CandidateId) : Type 0 where
  pub earlier : List PlaceName
  pub name : PlaceName
  pub is_last : borders_in lines ≡ earlier ++ name ∷ []
  pub is_place : IsPlaceOf labels name candidate

-- the border is a place of the scene, above the border before it
pub record IsNextBorder (labels : Labels) (before : List ReportLine) (name : PlaceName) : Type 0 where
  pub candidate : CandidateId
  pub is_place : IsPlaceOf labels name candidate
  pub above : (last : CandidateId) → IsLastBorder labels before last → last.0 < candidate.0

-- the border is a place of the scene, and not above the border before it
pub record IsBorderTooLow (labels : Labels) (before : List ReportLine) (name : PlaceName) : Type 0 where
  pub candidate : CandidateId
  pub is_place : IsPlaceOf labels name candidate
  pub last : CandidateId
  pub is_last : IsLastBorder labels before last
  pub low : candidate.0 ≤ last.0

-- the run is that of the train whose turn it is
abbrev pub IsNextRun : Labels → List ReportLine → List ℕ → Type 0
IsNextRun labels before train = slice_get labels.trains (runs_begun before) ≡ Some train

-- no run is due any more, or this is the one of a train whose turn it isn't
pub record IsRunOutOfTurn (labels : Labels) (before : List ReportLine) (train : List ℕ) : Type 0 where
  pub not_next : ¬ IsNextRun labels before train
  pub known : (length labels.trains ≤ runs_begun before) ⊎ Contains labels.trains train

-- a run is due, and the scene doesn't have this train
pub record IsRunUnknown (labels : Labels) (before : List ReportLine) (train : List ℕ) : Type 0 where
  pub due : runs_begun before < length labels.trains
  pub unknown : IsUnknownTrain labels train

-- where the lines have a design, each train has its run
abbrev pub HasAllRuns : Labels → List ReportLine → Type 0
HasAllRuns labels lines = IsTrue (has_design lines) → length labels.trains ≤ runs_begun lines

-- the line fits the scene behind the lines before it
abbrev pub LineFits : Labels → List ReportLine → ReportLine → Type 0
LineFits labels before (border name) = IsNextBorder labels before name
LineFits labels before (run train start) = IsNextRun labels before train
LineFits labels before (sweep cells) = All (IsKnownCell labels) cells
LineFits labels before smaller_none = HasAllRuns labels before
LineFits labels before (refutes bound) = HasAllRuns labels before
LineFits labels before end_line = HasAllRuns labels before
LineFits labels before l = Unit {0}

-- the line breaks the order of borders or of runs, or a run is missing before it
abbrev pub IsOutOfOrder : Labels → List ReportLine → ReportLine → Type 0
IsOutOfOrder labels before (border name) = IsBorderTooLow labels before name
IsOutOfOrder labels before (run train start) = IsRunOutOfTurn labels before train
IsOutOfOrder labels before smaller_none = ¬ HasAllRuns labels before
IsOutOfOrder labels before (refutes bound) = ¬ HasAllRuns labels before
IsOutOfOrder labels before end_line = ¬ HasAllRuns labels before
IsOutOfOrder labels before l = ⊥

-- the line has a name, a number or a place that the scene doesn't have
abbrev pub NamesUnknown : Labels → List ReportLine → ReportLine → Type 0
NamesUnknown labels before (border name) = IsUnknownPlace labels name
NamesUnknown labels before (run train start) = IsRunUnknown labels before train
NamesUnknown labels before (sweep cells) = ¬ All (IsKnownCell labels) cells
NamesUnknown labels before l = ⊥

-- each of the lines fits the scene behind those before it
abbrev pub FitBehind : Labels → List ReportLine → List ReportLine → Type 0
FitBehind labels before [] = Unit {0}
FitBehind labels before (l ∷ lines) = LineFits labels before l × FitBehind labels (before ++ l ∷ []) lines

abbrev pub LinesFit : Labels → List ReportLine → Type 0
LinesFit labels lines = FitBehind labels [] lines
