-- The design of a report, and the answers of its reader.
use Rattle.std.specs.Prelude.{◌≡◌, ◌≢◌, ◌⊎◌, ◌+◌, ◌<◌, ◌++◌, ℕ, List, Result, Ok, Err, All, IsTrue, false, length, map}
use Rattle.cell_net.specs.declared.ids.CandidateId.{CandidateId}
use Rattle.cell_net.specs.declared.labels.Labels.{Labels}
use Rattle.cell_net.specs.declared.plans.Plan.{Plan}
use Rattle.cell_net.specs.declared.plans.Sweep.{Sweep}
use Rattle.cell_net.specs.declared.plans.TrainRun.{TrainRun}
use Rattle.vss_report.specs.Designs.{lines_of_runs, has_design, borders_in, runs_in}
use Rattle.vss_report.specs.Faults.{IsBadLine}
use Rattle.vss_report.specs.Fits.{LinesFit, IsOutOfOrder, NamesUnknown}
use Rattle.vss_report.specs.Lines.{ReportLine, full_text, text_of_lines, IsSpelled}
use Rattle.vss_report.specs.Names.{place_named}
use Rattle.vss_report.specs.Places.{LinesLead, MayStand}
use Rattle.vss_report.specs.Reports.{IsReport}
use Rattle.vss_report.specs.declared.fault.ReportFault.{ReportFault}
use Rattle.vss_report.specs.declared.fault.ReportFault.TheVariants.{BadLine, UnknownName, NoPart, Memory}
use Rattle.vss_report.specs.declared.place.Place.{Place}
use Rattle.vss_report.specs.declared.place.Place.TheVariants.{Start}

-- the scene has the place, the cells
abbrev pub IsPlaceNumber : Labels → CandidateId → Type 0
IsPlaceNumber labels candidate = candidate.0 < length labels.places

abbrev pub HasCells : Labels → Sweep → Type 0
HasCells labels s = All (λ d. d.cell.0 < length labels.cells) s.cells

abbrev pub HasCellsOfRun : Labels → TrainRun → Type 0
HasCellsOfRun labels r = All (HasCells labels) r.sweeps

-- the report states the design: its lines fit the scene, its borders are those of the design, and its lines of runs
-- and sweeps are those of the design's runs
pub record StatesDesign (labels : Labels) (bytes : List ℕ) (borders : List CandidateId) (plan : Plan) : Type 0 where
  pub report : IsReport bytes
  pub begun : IsTrue (has_design report.lines)
  pub fit : LinesFit labels report.lines
  pub places : All (IsPlaceNumber labels) borders
  pub borders_are : map (place_named labels) borders ≡ borders_in report.lines
  pub cells : All (HasCellsOfRun labels) plan.runs
  pub runs_are : lines_of_runs labels 0 plan.runs ≡ runs_in report.lines

-- the lines of the report fit the scene, and it states no design
pub record StatesNoDesign (labels : Labels) (bytes : List ℕ) : Type 0 where
  pub report : IsReport bytes
  pub fit : LinesFit labels report.lines
  pub nothing : has_design report.lines ≡ false

-- the text begins with these lines of a report, each of which fits the scene
pub record BeginsWell (labels : Labels) (bytes : List ℕ) : Type 0 where
  pub lines : List ReportLine
  pub left : List ℕ
  pub at : Place
  pub leads : LinesLead Start lines at
  pub spelled : All IsSpelled lines
  pub begins : bytes ≡ text_of_lines lines ++ left
  pub fit : LinesFit labels lines

-- behind lines that fit, the n-th line, counted from 1, is one that a report may have there, with this fault
pub record FaultyAt (faulty : List ReportLine → ReportLine → Type 0) (labels : Labels) (bytes : List ℕ) (n : ℕ) : Type 0 where
  pub before : BeginsWell labels bytes
  pub line : ReportLine
  pub behind : List ℕ
  pub may_stand : MayStand before.at line
  pub is_next : before.left ≡ full_text line ++ behind
  pub counted : n ≡ length before.lines + 1
  pub fault : faulty before.lines line

-- the text goes wrong at the n-th line, and the whole lines before it fit
pub record GoesWrongFirst (labels : Labels) (bytes : List ℕ) (n : ℕ) : Type 0 where
  pub before : BeginsWell labels bytes
  pub all : (line : ReportLine) (behind : List ℕ) → MayStand before.at line → before.left ≢ full_text line ++ behind
  pub wrong : IsBadLine bytes n

-- the text begins as a report does, up to a border or a run
pub record ReachesDesign (bytes : List ℕ) : Type 0 where
  pub lines : List ReportLine
  pub left : List ℕ
  pub at : Place
  pub leads : LinesLead Start lines at
  pub spelled : All IsSpelled lines
  pub begins : bytes ≡ text_of_lines lines ++ left
  pub some : 0 < length (borders_in lines) + length (runs_in lines)

-- why no design is read: the first fault of a line, or that the report has no design
abbrev pub IsDesignFault : Labels → List ℕ → ReportFault → Type 0
IsDesignFault labels bytes (BadLine n) = GoesWrongFirst labels bytes n ⊎ FaultyAt (IsOutOfOrder labels) labels bytes n
IsDesignFault labels bytes (UnknownName n) = FaultyAt (NamesUnknown labels) labels bytes n
IsDesignFault labels bytes NoPart = StatesNoDesign labels bytes
IsDesignFault labels bytes Memory = ReachesDesign bytes

-- what reading the design of a text for a scene answers
abbrev pub IsDesignReading : Labels → List ℕ → Result (List CandidateId × Plan) ReportFault → Type 0
IsDesignReading labels bytes (Ok design) = StatesDesign labels bytes design.0 design.1
IsDesignReading labels bytes (Err fault) = IsDesignFault labels bytes fault

-- but for want of memory, there is one such answer
abbrev pub HasOneDesignReading : Labels → List ℕ → Type 0
HasOneDesignReading labels bytes = (r s : Result (List CandidateId × Plan) ReportFault) → r ≢ Err Memory → s ≢ Err Memory → IsDesignReading labels bytes r → IsDesignReading labels bytes s → r ≡ s
