-- Where a text goes wrong as a report.
use Rattle.std.specs.Prelude.{◌≡◌, ◌⊎◌, ◌+◌, ◌-◌, ◌<◌, ◌≤◌, ℕ, List, length, take}
use Rattle.vss_io.specs.Line.{flat}
use Rattle.vss_text.specs.Lines.{lines_of}
use Rattle.vss_text.specs.Reading.{EndsWithin, NeverBegins}
use Rattle.vss_report.specs.Lines.{full_text}
use Rattle.vss_report.specs.Places.{MayStand, EndsReport, CanEnd}
use Rattle.vss_report.specs.declared.fault.ReportFault.{ReportFault}
use Rattle.vss_report.specs.declared.fault.ReportFault.TheVariants.{BadLine}
use Rattle.vss_report.specs.declared.place.Place.{Place}
use Rattle.vss_report.specs.declared.place.Place.TheVariants.{Start}

-- the text up to its n-th line, and with it
abbrev pub text_up_to : ℕ → List ℕ → List ℕ
text_up_to n text = flat (take n (lines_of text))

-- the text up to its n-th line, and with it, can't become a report; or the text ends too early, at the line before the n-th
abbrev pub GoesWrongAt : Place → List ℕ → ℕ → Type 0
GoesWrongAt from text n = ((n ≤ length (lines_of text)) × ¬ CanEnd from (text_up_to n text)) ⊎ ((n ≡ length (lines_of text) + 1) × ¬ EndsReport from text)

-- the n-th line, counted from 1, is the first at which the text goes wrong
pub record IsFirstWrong (from : Place) (text : List ℕ) (n : ℕ) : Type 0 where
  pub some : 1 ≤ n
  pub before : CanEnd from (text_up_to (n - 1) text)
  pub wrong : GoesWrongAt from text n

abbrev pub IsBadLine : List ℕ → ℕ → Type 0
IsBadLine text n = IsFirstWrong Start text n

-- the line at the place is wrong, or the text ends within it: the fault is at it, of that number, or at the one behind it
pub record IsWrongHere (from : Place) (number : ℕ) (text : List ℕ) (fault : ReportFault) : Type 0 where
  pub line : ℕ
  pub is_bad : fault ≡ BadLine line
  pub wrong : ((line ≡ number) × (0 < length text) × NeverBegins (MayStand from) full_text text) ⊎ ((line ≡ number + length (lines_of text)) × EndsWithin (MayStand from) full_text text)
