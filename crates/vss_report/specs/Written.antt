-- Outcomes that can stand in a report, so that they are read back.
use Rattle.std.specs.Prelude.{◌≡◌, ◌<◌, ◌≤◌, ℕ, List, Option, Some, None, All, length}
use Rattle.cell_net.specs.Borders.{RisesAt}
use Rattle.cell_net.specs.declared.ids.CandidateId.{CandidateId}
use Rattle.cell_net.specs.declared.labels.PlaceLabel.{PlaceLabel}
use Rattle.cell_net.specs.declared.labels.PlaceLabel.TheVariants.{Cut, Joint}
use Rattle.cell_net.specs.declared.labels.Labels.{Labels}
use Rattle.cell_net.specs.declared.plans.Plan.{Plan}
use Rattle.cell_net.specs.declared.plans.Sweep.{Sweep}
use Rattle.cell_net.specs.declared.plans.TrainRun.{TrainRun}
use Rattle.derivation_log.specs.Text.{IsInRange}
use Rattle.derivation_log.specs.declared.step.Refutation.{Refutation}
use Rattle.vss_lists.specs.Breaks.{HoldsOfEach}
use Rattle.vss_text.specs.Numbers.{IsShort}
use Rattle.vss_report.specs.DesignFaults.{IsPlaceNumber, HasCells, StatesDesign}
use Rattle.vss_report.specs.Lines.{IsSpelledBound}
use Rattle.vss_report.specs.Outcomes.{report_text}
use Rattle.vss_report.specs.Refutations.{StatesRefutation}
use Rattle.vss_report.specs.declared.outcome.Smaller.{Smaller}
use Rattle.vss_report.specs.declared.outcome.Smaller.TheVariants as smaller
use Rattle.vss_report.specs.declared.outcome.Outcome.{Outcome}
use Rattle.vss_report.specs.declared.outcome.Outcome.TheVariants as outcome

abbrev pub IsShortPlace : PlaceLabel → Type 0
IsShortPlace (Cut track at_m) = IsShort at_m
IsShortPlace (Joint name) = Unit {0}

-- the numbers in the names of cells and places can stand in a report
pub record HasShortNames (labels : Labels) : Type 0 where
  pub cells : All (λ c. IsShort c.index) labels.cells
  pub places : All IsShortPlace labels.places

-- a sweep has a cell, and each is one of the scene
pub record IsReportSweep (labels : Labels) (s : Sweep) : Type 0 where
  pub not_empty : 0 < length s.cells
  pub cells : HasCells labels s

-- a run has a sweep
pub record IsReportRun (labels : Labels) (r : TrainRun) : Type 0 where
  pub start : IsShort r.start
  pub not_empty : 0 < length r.sweeps
  pub sweeps : All (IsReportSweep labels) r.sweeps

-- the borders are places of the scene and rise, and each train has a run
pub record IsReportDesign (labels : Labels) (borders : List CandidateId) (plan : Plan) : Type 0 where
  pub few : IsShort (length borders)
  pub places : All (IsPlaceNumber labels) borders
  pub rising : HoldsOfEach (RisesAt borders) borders
  pub one_run_each : length plan.runs ≡ length labels.trains
  pub runs : All (IsReportRun labels) plan.runs

pub record IsReportRefutation (r : Refutation) : Type 0 where
  pub bound : IsSpelledBound r.bound
  pub steps : All IsInRange r.log.steps

abbrev pub IsReportSmaller : Smaller → Type 0
IsReportSmaller (smaller.Refuted r) = IsReportRefutation r
IsReportSmaller other = Unit {0}

abbrev pub IsReportBest : Labels → Option (List CandidateId × Plan) → Type 0
IsReportBest labels None = Unit {0}
IsReportBest labels (Some design) = IsReportDesign labels design.0 design.1

-- the outcome can stand in a report: no run and no sweep is empty, and all numbers are in range
abbrev pub IsReportOutcome : Labels → Outcome → Type 0
IsReportOutcome labels (outcome.Done d) = IsReportDesign labels d.layout d.plan × IsReportSmaller d.smaller
IsReportOutcome labels (outcome.Impossible r) = IsReportRefutation r
IsReportOutcome labels (outcome.Spent n best) = (n ≤ 1000000000) × IsReportBest labels best

-- the outcome has this design
abbrev pub HasDesign : Outcome → List CandidateId → Plan → Type 0
HasDesign (outcome.Done d) borders plan = (borders ≡ d.layout) × (plan ≡ d.plan)
HasDesign (outcome.Spent n (Some design)) borders plan = (borders ≡ design.0) × (plan ≡ design.1)
HasDesign o borders plan = ⊥

-- the report of the outcome states the design that the outcome has
abbrev pub IsDesignReadBack : Labels → Outcome → Type 0
IsDesignReadBack labels o = (borders : List CandidateId) (plan : Plan) → HasDesign o borders plan → StatesDesign labels (report_text labels o) borders plan

-- this is what refutes that there are smaller layouts
abbrev pub IsSmallerRefuted : Smaller → Refutation → Type 0
IsSmallerRefuted (smaller.Refuted s) r = r ≡ s
IsSmallerRefuted other r = ⊥

-- the outcome has this refutation
abbrev pub HasRefutation : Outcome → Refutation → Type 0
HasRefutation (outcome.Done d) r = IsSmallerRefuted d.smaller r
HasRefutation (outcome.Impossible s) r = r ≡ s
HasRefutation (outcome.Spent n best) r = ⊥

-- the report states the refutation, from some line on
pub record IsStated (bytes : List ℕ) (r : Refutation) : Type 0 where
  pub number : ℕ
  pub states : StatesRefutation bytes r number

-- the report of the outcome states the refutation that the outcome has
abbrev pub IsRefutationReadBack : Labels → Outcome → Type 0
IsRefutationReadBack labels o = (r : Refutation) → HasRefutation o r → IsStated (report_text labels o) r
