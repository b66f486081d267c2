-- A text goes wrong at one line, and a report at none.
use Rattle.std.proofs.Common.{◌≡◌, ◌<◌, ◌≤◌, ◌+◌, ◌-◌, inl, inr, ℕ, zero, suc, List, [], ◌∷◌, ◌++◌, length, take, refl, sym, ap, subst, ◌∙◌, arith, append_assoc, append-nil}
use Rattle.std.proofs.lemmas.Bool.{cases_lt}
use Rattle.vss_io.specs.Line.{flat}
use Rattle.vss_text.specs.Lines.{lines_of}
use Rattle.vss_report.specs.Faults.{text_up_to, GoesWrongAt, IsFirstWrong}
use Rattle.vss_report.specs.Places.{EndsReport, CanEnd}
use Rattle.vss_report.specs.declared.place.Place.{Place}
use Rattle.vss_report.proofs.FaultLemmas.{whole_text}

-- some lines of a text begin what more of them are
front : (lines : List (List ℕ)) (n m : ℕ) → n ≤ m → (rest : List ℕ) × (flat (take m lines) ≡ flat (take n lines) ++ rest)
front lines zero m few = (flat (take m lines), refl)
front lines (suc n) zero few = absurd (omega arith)
front [] (suc n) (suc m) few = ([], refl)
front (l ∷ lines) (suc n) (suc m) few = let more = front lines n m (omega arith) in (more.0, ap (λ t. l ++ t) more.1 ∙ sym (append_assoc l (flat (take n lines)) more.0))

earlier : (from : Place) (text : List ℕ) (n m : ℕ) → n ≤ m → CanEnd from (text_up_to m text) → CanEnd from (text_up_to n text)
earlier from text n m few can =
    let more = front (lines_of text) n m few in
    record { more = more.0 ++ can.more; ends = subst (EndsReport from) (ap (λ t. t ++ can.more) more.1 ∙ append_assoc (text_up_to n text) more.0 can.more) can.ends }

pub no_bad_line : (from : Place) (text : List ℕ) (n : ℕ) → EndsReport from text → IsFirstWrong from text n → ⊥
no_bad_line from text n ends bad = by_cause bad.wrong
  where
    by_cause : GoesWrongAt from text n → ⊥
    by_cause (inl within) = within.1 (earlier from text n (length (lines_of text)) within.0 (record { more = []; ends = subst (EndsReport from) (sym (whole_text text) ∙ sym (append-nil (text_up_to (length (lines_of text)) text))) ends }))
    by_cause (inr past) = past.1 ends

later_bad : (from : Place) (text : List ℕ) (n m : ℕ) → n < m → IsFirstWrong from text n → IsFirstWrong from text m → ⊥
later_bad from text n m below one other = by_cause one.wrong
  where
    past_end : GoesWrongAt from text m → length (lines_of text) + 1 < m → ⊥
    past_end (inl within) past = omega (arith, within.0)
    past_end (inr behind) past = omega (arith, behind.0)

    by_cause : GoesWrongAt from text n → ⊥
    by_cause (inl within) = within.1 (earlier from text n (m - 1) (omega arith) other.before)
    by_cause (inr past) = past_end other.wrong (omega (arith, past.0))

pub one_bad_line : (from : Place) (text : List ℕ) (n m : ℕ) → IsFirstWrong from text n → IsFirstWrong from text m → n ≡ m
one_bad_line from text n m one other = elim (cases_lt n m) [
  | inl below ↦ absurd (later_bad from text n m below one other)
  | inr above ↦ elim (cases_lt m n) [
    | inl below ↦ absurd (later_bad from text m n below other one)
    | inr same ↦ omega arith
  ]
]
