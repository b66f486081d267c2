-- Which texts are reports.
use Rattle.std.specs.Prelude.{ℕ, List}
use Rattle.vss_report.specs.Places.{EndsReport, CanEnd}
use Rattle.vss_report.specs.declared.place.Place.TheVariants.{Start}

-- the bytes are a report
abbrev pub IsReport : List ℕ → Type 0
IsReport bytes = EndsReport Start bytes

-- the bytes are a front of a report, or all of it
abbrev pub IsFront : List ℕ → Type 0
IsFront bytes = CanEnd Start bytes
