-- The refutation of a report, and the answers of its reader.
use Rattle.std.specs.Prelude.{◌≡◌, ◌≢◌, ◌-◌, ◌<◌, ◌++◌, ℕ, List, [], ◌∷◌, Result, Ok, Err, All, Some, slice_get, length}
use Rattle.derivation_log.specs.declared.step.Step.{Step}
use Rattle.derivation_log.specs.declared.step.Bound.{Bound}
use Rattle.derivation_log.specs.declared.step.Refutation.{Refutation}
use Rattle.vss_report.specs.Lines.{ReportLine, step, refutes, text_of_lines, IsSpelled}
use Rattle.vss_report.specs.Places.{LinesLead}
use Rattle.vss_report.specs.Reports.{IsReport}
use Rattle.vss_report.specs.Faults.{IsBadLine}
use Rattle.vss_report.specs.declared.place.Place.{Place}
use Rattle.vss_report.specs.declared.place.Place.TheVariants.{Start}
use Rattle.vss_report.specs.declared.fault.ReportFault.{ReportFault}
use Rattle.vss_report.specs.declared.fault.ReportFault.TheVariants.{BadLine, UnknownName, NoPart, Memory}

-- the steps of the lines
abbrev pub steps_of_lines : List ReportLine → List Step
steps_of_lines [] = []
steps_of_lines (step s ∷ lines) = s ∷ steps_of_lines lines
steps_of_lines (l ∷ lines) = steps_of_lines lines

-- the n-th line, counted from 1, says what is refuted
pub record RefutesAt (lines : List ReportLine) (n : ℕ) (bound : Bound) : Type 0 where
  pub some : 0 < n
  pub is_there : slice_get lines (n - 1) ≡ Some (refutes bound)

-- no line says that something is refuted
abbrev pub RefutesNothing : List ReportLine → Type 0
RefutesNothing lines = (k : ℕ) (bound : Bound) → slice_get lines k ≢ Some (refutes bound)

-- the report states the refutation, from its n-th line on
pub record StatesRefutation (bytes : List ℕ) (refutation : Refutation) (n : ℕ) : Type 0 where
  pub report : IsReport bytes
  pub bound : RefutesAt report.lines n refutation.bound
  pub steps : refutation.log.steps ≡ steps_of_lines report.lines

-- the report states no refutation
pub record StatesNone (bytes : List ℕ) : Type 0 where
  pub report : IsReport bytes
  pub nothing : RefutesNothing report.lines

-- the text begins as a report does, up to a step of a log
pub record ReachesStep (bytes : List ℕ) : Type 0 where
  pub lines : List ReportLine
  pub left : List ℕ
  pub at : Place
  pub leads : LinesLead Start lines at
  pub spelled : All IsSpelled lines
  pub begins : bytes ≡ text_of_lines lines ++ left
  pub some : 0 < length (steps_of_lines lines)

-- why no refutation is read
abbrev pub IsFault : List ℕ → ReportFault → Type 0
IsFault bytes (BadLine n) = IsBadLine bytes n
IsFault bytes (UnknownName n) = ⊥
IsFault bytes NoPart = StatesNone bytes
IsFault bytes Memory = ReachesStep bytes

-- what reading the refutation of a text answers
abbrev pub IsRefutationReading : List ℕ → Result (Refutation × ℕ) ReportFault → Type 0
IsRefutationReading bytes (Ok found) = StatesRefutation bytes found.0 found.1
IsRefutationReading bytes (Err fault) = IsFault bytes fault

-- but for want of memory, there is one such answer
abbrev pub HasOneRefutationReading : List ℕ → Type 0
HasOneRefutationReading bytes = (r s : Result (Refutation × ℕ) ReportFault) → r ≢ Err Memory → s ≢ Err Memory → IsRefutationReading bytes r → IsRefutationReading bytes s → r ≡ s
