-- What is gathered of the lines of a report for a refutation.
use Rattle.std.specs.Prelude.{◌≡◌, ℕ, List, Option, Some, None}
use Rattle.derivation_log.specs.declared.step.Bound.{Bound}
use Rattle.vss_report.specs.Lines.{ReportLine, IsSpelled}
use Rattle.vss_report.specs.Readings.{SaysLine}
use Rattle.vss_report.specs.Refutations.{steps_of_lines, RefutesAt, RefutesNothing}
use Rattle.vss_report.specs.declared.gathered.Gathered.{Gathered}
use Rattle.vss_report.specs.declared.read_line.ReadLine.{ReadLine}

abbrev pub HasBound : List ReportLine → Option (Bound × ℕ) → Type 0
HasBound lines None = RefutesNothing lines
HasBound lines (Some (bound, n)) = RefutesAt lines n bound

-- the steps of the lines, and what they refute
pub record AreGathered (lines : List ReportLine) (g : Gathered) : Type 0 where
  pub bound : HasBound lines g.bound
  pub steps : g.steps.items ≡ steps_of_lines lines

-- a line that can stand in a report was read
pub record IsGood (found : ReadLine) : Type 0 where
  pub line : ReportLine
  pub spelled : IsSpelled line
  pub says : SaysLine found line
