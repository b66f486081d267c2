-- What is taken of the lines of a report for a design.
use Rattle.std.specs.Prelude.{◌≡◌, ◌≤◌, ◌+◌, ◌++◌, ℕ, List, [], ◌∷◌, All, length, map}
use Rattle.cell_net.specs.declared.ids.CandidateId.{CandidateId}
use Rattle.cell_net.specs.declared.labels.Labels.{Labels}
use Rattle.cell_net.specs.declared.plans.Sweep.{Sweep}
use Rattle.cell_net.specs.declared.plans.TrainRun.{TrainRun}
use Rattle.vss_report.specs.DesignFaults.{IsPlaceNumber, HasCellsOfRun, IsDesignFault}
use Rattle.vss_report.specs.Designs.{lines_of_runs, has_design, borders_in, runs_in, runs_begun}
use Rattle.vss_report.specs.Fits.{LinesFit, IsOutOfOrder, NamesUnknown}
use Rattle.vss_report.specs.Lines.{ReportLine, border, run, sweep}
use Rattle.vss_report.specs.Names.{place_named}
use Rattle.vss_report.specs.Places.{MayStand, LinesLead}
use Rattle.vss_report.specs.Reports.{IsReport}
use Rattle.vss_report.specs.declared.design_parts.DesignParts.{DesignParts}
use Rattle.vss_report.specs.declared.fault.ReportFault.{ReportFault}
use Rattle.vss_report.specs.declared.fault.ReportFault.TheVariants.{BadLine, UnknownName, NoPart, Memory}
use Rattle.vss_report.specs.declared.place.Place.{Place}
use Rattle.vss_report.specs.declared.place.Place.TheVariants.{Start}

-- the number that the next border has at least: one above the last border
abbrev pub IsOneAboveLast : List CandidateId → ℕ → Type 0
IsOneAboveLast [] from = from ≡ 0
IsOneAboveLast (b ∷ []) from = from ≡ b.0 + 1
IsOneAboveLast (b ∷ bs) from = IsOneAboveLast bs from

-- each border is above the one before it
abbrev pub AreRising : List CandidateId → Type 0
AreRising [] = Unit {0}
AreRising (b ∷ []) = Unit {0}
AreRising (b ∷ c ∷ bs) = (b.0 + 1 ≤ c.0) × AreRising (c ∷ bs)

-- the lines fit the scene, and their borders and runs are taken
pub record AreTaken (labels : Labels) (lines : List ReportLine) (parts : DesignParts) : Type 0 where
  pub fit : LinesFit labels lines
  pub begun : parts.begun ≡ has_design lines
  pub places : All (IsPlaceNumber labels) parts.borders.items
  pub rising : AreRising parts.borders.items
  pub from : IsOneAboveLast parts.borders.items parts.from
  pub borders_are : map (place_named labels) parts.borders.items ≡ borders_in lines
  pub cells : All (HasCellsOfRun labels) parts.runs.items
  pub counted : length parts.runs.items ≡ runs_begun lines
  pub runs_are : lines_of_runs labels 0 parts.runs.items ≡ runs_in lines

-- the line may stand behind the lines in a report
pub record StandsBehind (lines : List ReportLine) (l : ReportLine) : Type 0 where
  pub at : Place
  pub leads : LinesLead Start lines at
  pub may_stand : MayStand at l

-- from what was taken of the lines before it to what is taken with the line
abbrev pub TakesLine : Labels → DesignParts → DesignParts → ReportLine → Type 0
TakesLine labels old new l = (lines : List ReportLine) → StandsBehind lines l → AreTaken labels lines old → AreTaken labels (lines ++ l ∷ []) new

-- the line is one of a border or a run
abbrev pub IsOfDesign : ReportLine → Type 0
IsOfDesign (border name) = Unit {0}
IsOfDesign (run train start) = Unit {0}
IsOfDesign (sweep cells) = Unit {0}
IsOfDesign l = ⊥

-- the line of that number, behind those lines, has this fault
abbrev pub IsFaultOfLine : Labels → List ReportLine → ReportLine → ℕ → ReportFault → Type 0
IsFaultOfLine labels before l number (BadLine n) = (n ≡ number) × IsOutOfOrder labels before l
IsFaultOfLine labels before l number (UnknownName n) = (n ≡ number) × NamesUnknown labels before l
IsFaultOfLine labels before l number NoPart = ⊥
IsFaultOfLine labels before l number Memory = IsOfDesign l

-- the same, behind the lines that were taken
abbrev pub RefusesLine : Labels → DesignParts → ReportLine → ℕ → ReportFault → Type 0
RefusesLine labels old l number fault = (lines : List ReportLine) → StandsBehind lines l → AreTaken labels lines old → IsFaultOfLine labels lines l number fault

-- the last run, if there is one, has this sweep behind its others, and the runs before it are the same
abbrev pub AddsSweep : List TrainRun → List TrainRun → Sweep → Type 0
AddsSweep [] new s = new ≡ []
AddsSweep (r ∷ []) new s = new ≡ (record { start = r.start; sweeps = r.sweeps ++ s ∷ [] }) ∷ []
AddsSweep (r ∷ rs) [] s = ⊥
AddsSweep (r ∷ rs) (n ∷ ns) s = (n ≡ r) × AddsSweep rs ns s

-- the report is whole, its lines fit the scene, and their borders and runs are taken
pub record IsTakenWhole (labels : Labels) (bytes : List ℕ) (parts : DesignParts) : Type 0 where
  pub report : IsReport bytes
  pub taken : AreTaken labels report.lines parts
  pub few : length report.lines ≤ length bytes

-- the fault is the first of a line, or want of memory
abbrev pub IsLineFault : Labels → List ℕ → ReportFault → Type 0
IsLineFault labels bytes NoPart = ⊥
IsLineFault labels bytes fault = IsDesignFault labels bytes fault
