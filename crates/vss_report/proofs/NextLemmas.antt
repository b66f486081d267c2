-- The fault of the next line.
use Rattle.std.proofs.Common.{◌≡◌, ◌≢◌, ◌+◌, inl, inr, ℕ, Bool, true, false, List, [], ◌∷◌, length, refl, arith}
use Rattle.std.specs.Prelude.{nat_eq}
use Rattle.vss_text.specs.Lines.{lines_of}
use Rattle.vss_text.specs.Reading.{EndsWithin, NeverBegins}
use Rattle.vss_report.specs.Lines.{full_text}
use Rattle.vss_report.specs.Places.{MayStand}
use Rattle.vss_report.specs.Faults.{IsWrongHere}
use Rattle.vss_report.specs.declared.fault.ReportFault.TheVariants.{BadLine}
use Rattle.vss_report.specs.declared.place.Place.{Place}
use Rattle.vss_report.specs.declared.place.Place.TheVariants.{Finished}
use Rattle.vss_report.proofs.CountLemmas.{some_left, none_left}
use Rattle.vss_report.proofs.FaultLemmas.{never_empty, short_plain, lines_few}

pub wrong_at : (place : Place) (number : ℕ) (text : List ℕ) → place ≢ Finished → NeverBegins (MayStand place) full_text text → IsWrongHere place number text (BadLine number)
wrong_at place number [] due never = absurd (never_empty place due never)
wrong_at place number (b ∷ text) due never = record { line = number; is_bad = refl; wrong = inl (refl, omega arith, never) }

pub short_at_end : (place : Place) (number : ℕ) (text : List ℕ) (empty : Bool) → empty ≡ nat_eq (length text) 0 → empty ≡ true → EndsWithin (MayStand place) full_text text → IsWrongHere place number text (BadLine number)
short_at_end place number text empty is all within = record { line = number; is_bad = refl; wrong = inr (no_line text (none_left text empty is all), within) }
  where
    no_line : (text : List ℕ) → length text ≡ 0 → number ≡ number + length (lines_of text)
    no_line [] none = omega arith
    no_line (b ∷ text) none = absurd (omega arith)

pub short_in_line : (place : Place) (number : ℕ) (text : List ℕ) (empty : Bool) → empty ≡ nat_eq (length text) 0 → empty ≡ false → EndsWithin (MayStand place) full_text text → IsWrongHere place number text (BadLine (number + 1))
short_in_line place number text empty is not_empty within =
    record { line = number + 1; is_bad = refl; wrong = inr (omega (arith, lines_few text (short_plain place text within) (some_left text empty is not_empty)), within) }
