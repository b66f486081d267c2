-- Laws of the kinds of line: which lines are of a kind, and what is missed of them.
use Rattle.std.proofs.Common.{◌≡◌, ◌⊎◌, inl, inr, ℕ, List, [], ◌∷◌, ◌++◌, codes, decimal, true, refl, sym, ap, ◌∙◌, arith, append_assoc}
use Rattle.std.specs.Borrow.{Bor}
use Rattle.std.specs.List.{flat_map}
use Rattle.std.specs.Str.{all_ascii_digits}
use Rattle.std.proofs.lemmas.Bool.{cases_lt}
use Rattle.std.proofs.lemmas.Fmt.{decimal-digits_value}
use Rattle.std.proofs.lemmas.Str.Parse.{numerals_by_value, tells_all_ascii_digits}
use Rattle.derivation_log.specs.Text.{step_text, IsInRange}
use Rattle.derivation_log.specs.Tested.{BeginsWithStep}
use Rattle.derivation_log.specs.declared.step.Bound.TheVariants.{Given, AtMost}
use Rattle.derivation_log.specs.declared.tested.StepText.{StepText}
use Rattle.derivation_log.proofs.StepLemmas.{step_read_once}
use Rattle.vss_names.specs.Names.{IsName}
use Rattle.vss_text.specs.Numbers.{IsShort, ended}
use Rattle.vss_text.specs.Reading.{EndsWithin, NeverBegins, Misses, MissesText, Both, both_spelled}
use Rattle.vss_text.specs.declared.miss.Miss.{Miss}
use Rattle.vss_text.proofs.ReadingLaws.{misses_first, misses_second, misses_named, misses_either}
use Rattle.vss_report.specs.Lines.{ReportLine, cut, joint, header, verdict_done, verdict_impossible, verdict_spent, conflicts, best_none, count, border, run, sweep, smaller_none, refutes, step, end_line, line_kind, spaced, full_text}
use Rattle.vss_report.specs.Readings.{IsOfKind, IsFound, named, with_word, AreSweepCells, cells_line, HasCells}
use Rattle.vss_report.specs.declared.kind.Kind.{Kind}
use Rattle.vss_report.specs.declared.kind.Kind.TheVariants as kind
use Rattle.vss_report.specs.declared.read_line.ReadLine.TheVariants as read
use Rattle.vss_report.proofs.PartLemmas.{Always, word}

-- an item of another kind that is spelled as the line
abbrev IsLine : {X : Type 0} → (X → Type 0) → (X → List ℕ) → ReportLine → Type 0
IsLine {X} P s z = (x : X) × P x × (full_text z ≡ s x)

-- lines of a kind, and items that are spelled so
abbrev AllAre : {X : Type 0} → (X → Type 0) → (X → List ℕ) → Kind → Type 0
AllAre P s k = (z : ReportLine) → IsOfKind k z → IsLine P s z

abbrev EachIs : {X : Type 0} → (X → Type 0) → (X → List ℕ) → Kind → Type 0
EachIs {X} P s k = (x : X) → P x → (z : ReportLine) × IsOfKind k z × (full_text z ≡ s x)

missed_as : {X : Type 0} (P : X → Type 0) (s : X → List ℕ) (k : Kind) (text : List ℕ) (miss : Miss) → EachIs P s k → AllAre P s k → Misses P s text miss → Misses (IsOfKind k) full_text text miss
missed_as P s k text miss up down missed = misses_named P s (IsOfKind k) full_text text miss up (λ z more rest fit same. down z fit) missed

short_as : {X : Type 0} (P : X → Type 0) (s : X → List ℕ) (k : Kind) (text : List ℕ) → EachIs P s k → EndsWithin P s text → EndsWithin (IsOfKind k) full_text text
short_as P s k text up within =
    let line = up within.item within.fits in
    record { item = line.0; more = within.more; fits = line.1; goes_on = within.goes_on ∙ sym line.2; too_early = within.too_early }

-- the one line of some words
fixed_up : (k : Kind) (l : ReportLine) → IsOfKind k l → EachIs Always (word (full_text l)) k
fixed_up k l fits x _ = (l, fits, refl)

fixed_missed : (k : Kind) (l : ReportLine) (text : List ℕ) (miss : Miss) → IsOfKind k l → AllAre Always (word (full_text l)) k → MissesText (full_text l) text miss → Misses (IsOfKind k) full_text text miss
fixed_missed k l text miss fits down missed = missed_as Always (word (full_text l)) k text miss (fixed_up k l fits) down missed

header_is : AllAre Always (word (full_text header)) kind.Header
header_is header fits = (tt, tt, refl)
header_is z fits = absurd (let e : line_kind z ≡ kind.Header = fits.kind_is in cc)

pub header_missed : (text : List ℕ) (miss : Miss) → MissesText (full_text header) text miss → Misses (IsOfKind kind.Header) full_text text miss
header_missed text miss missed = fixed_missed kind.Header header text miss (record { spelled = tt; kind_is = refl }) header_is missed

done_is : AllAre Always (word (full_text verdict_done)) kind.Done
done_is verdict_done fits = (tt, tt, refl)
done_is z fits = absurd (let e : line_kind z ≡ kind.Done = fits.kind_is in cc)

pub done_missed : (text : List ℕ) (miss : Miss) → MissesText (full_text verdict_done) text miss → Misses (IsOfKind kind.Done) full_text text miss
done_missed text miss missed = fixed_missed kind.Done verdict_done text miss (record { spelled = tt; kind_is = refl }) done_is missed

impossible_is : AllAre Always (word (full_text verdict_impossible)) kind.Impossible
impossible_is verdict_impossible fits = (tt, tt, refl)
impossible_is z fits = absurd (let e : line_kind z ≡ kind.Impossible = fits.kind_is in cc)

pub impossible_missed : (text : List ℕ) (miss : Miss) → MissesText (full_text verdict_impossible) text miss → Misses (IsOfKind kind.Impossible) full_text text miss
impossible_missed text miss missed = fixed_missed kind.Impossible verdict_impossible text miss (record { spelled = tt; kind_is = refl }) impossible_is missed

spent_is : AllAre Always (word (full_text verdict_spent)) kind.Spent
spent_is verdict_spent fits = (tt, tt, refl)
spent_is z fits = absurd (let e : line_kind z ≡ kind.Spent = fits.kind_is in cc)

pub spent_missed : (text : List ℕ) (miss : Miss) → MissesText (full_text verdict_spent) text miss → Misses (IsOfKind kind.Spent) full_text text miss
spent_missed text miss missed = fixed_missed kind.Spent verdict_spent text miss (record { spelled = tt; kind_is = refl }) spent_is missed

best_none_is : AllAre Always (word (full_text best_none)) kind.BestNone
best_none_is best_none fits = (tt, tt, refl)
best_none_is z fits = absurd (let e : line_kind z ≡ kind.BestNone = fits.kind_is in cc)

pub best_none_missed : (text : List ℕ) (miss : Miss) → MissesText (full_text best_none) text miss → Misses (IsOfKind kind.BestNone) full_text text miss
best_none_missed text miss missed = fixed_missed kind.BestNone best_none text miss (record { spelled = tt; kind_is = refl }) best_none_is missed

smaller_none_is : AllAre Always (word (full_text smaller_none)) kind.SmallerNone
smaller_none_is smaller_none fits = (tt, tt, refl)
smaller_none_is z fits = absurd (let e : line_kind z ≡ kind.SmallerNone = fits.kind_is in cc)

pub smaller_none_missed : (text : List ℕ) (miss : Miss) → MissesText (full_text smaller_none) text miss → Misses (IsOfKind kind.SmallerNone) full_text text miss
smaller_none_missed text miss missed = fixed_missed kind.SmallerNone smaller_none text miss (record { spelled = tt; kind_is = refl }) smaller_none_is missed

end_is : AllAre Always (word (full_text end_line)) kind.End
end_is end_line fits = (tt, tt, refl)
end_is z fits = absurd (let e : line_kind z ≡ kind.End = fits.kind_is in cc)

pub end_missed : (text : List ℕ) (miss : Miss) → MissesText (full_text end_line) text miss → Misses (IsOfKind kind.End) full_text text miss
end_missed text miss missed = fixed_missed kind.End end_line text miss (record { spelled = tt; kind_is = refl }) end_is missed

-- counts of borders
count_is : AllAre IsShort (with_word (codes "design ") (ended 10)) kind.Count
count_is (count n) fits = (n, fits.spelled, refl)
count_is z fits = absurd (let e : line_kind z ≡ kind.Count = fits.kind_is in cc)

pub count_missed : (text : List ℕ) (miss : Miss) → Misses IsShort (with_word (codes "design ") (ended 10)) text miss → Misses (IsOfKind kind.Count) full_text text miss
count_missed text miss missed = missed_as IsShort (with_word (codes "design ") (ended 10)) kind.Count text miss (λ n fits. (count n, record { spelled = fits; kind_is = refl }, refl)) count_is missed

-- conflicts
most_decimal : decimal 1000000000 ≡ codes "1000000000"
most_decimal = decimal-digits_value (numerals_by_value (λ ds. all_ascii_digits ds ≡ true) tells_all_ascii_digits) (codes "1000000000") refl (omega arith) (λ zero_first. absurd (omega (arith, zero_first))) (omega arith)

most_conflicts : full_text (conflicts 1000000000) ≡ codes "conflicts 1000000000\n"
most_conflicts = ap (λ digits. codes "conflicts " ++ (digits ++ 10 ∷ [])) most_decimal

conflicts_up : EachIs IsShort (with_word (codes "conflicts ") (ended 10)) kind.Conflicts
conflicts_up n fits = (conflicts n, record { spelled = omega arith; kind_is = refl }, refl)

conflicts_are : (z : ReportLine) → IsOfKind kind.Conflicts z → IsLine IsShort (with_word (codes "conflicts ") (ended 10)) z ⊎ IsLine Always (word (codes "conflicts 1000000000\n")) z
conflicts_are (conflicts n) fits = elim (cases_lt n 1000000000) [
  | inl short ↦ inl (n, omega arith, refl)
  | inr most ↦
      let is : n ≡ 1000000000 = omega (arith, fits.spelled) in
      inr (tt, tt, ap (λ m. full_text (conflicts m)) is ∙ most_conflicts)
]
conflicts_are z fits = absurd (let e : line_kind z ≡ kind.Conflicts = fits.kind_is in cc)

pub conflicts_short : (text : List ℕ) → EndsWithin IsShort (with_word (codes "conflicts ") (ended 10)) text → EndsWithin (IsOfKind kind.Conflicts) full_text text
conflicts_short text within = short_as IsShort (with_word (codes "conflicts ") (ended 10)) kind.Conflicts text conflicts_up within

pub conflicts_missed : (text : List ℕ) (miss : Miss) → NeverBegins IsShort (with_word (codes "conflicts ") (ended 10)) text → MissesText (codes "conflicts 1000000000\n") text miss → Misses (IsOfKind kind.Conflicts) full_text text miss
conflicts_missed text miss never missed =
    misses_either IsShort (with_word (codes "conflicts ") (ended 10)) Always (word (codes "conflicts 1000000000\n")) (IsOfKind kind.Conflicts) full_text text miss
    (λ x _. (conflicts 1000000000, record { spelled = omega arith; kind_is = refl }, most_conflicts)) conflicts_are never missed

pub conflicts_found : (text rest : List ℕ) → text ≡ codes "conflicts 1000000000\n" ++ rest → IsFound (IsOfKind kind.Conflicts) text (read.Conflicts 1000000000) rest
conflicts_found text rest is = record {
  line = conflicts 1000000000;
  fits = record { spelled = omega arith; kind_is = refl };
  says = refl;
  is_front = is ∙ ap (λ front. front ++ rest) (sym most_conflicts);
}

-- a name, a blank, a number and the end of the line
pub named_text : (name digits : List ℕ) → (name ++ (32 ∷ digits)) ++ 10 ∷ [] ≡ (name ++ 32 ∷ []) ++ (digits ++ 10 ∷ [])
named_text name digits = append_assoc name (32 ∷ digits) (10 ∷ []) ∙ sym (append_assoc name (32 ∷ []) (digits ++ 10 ∷ []))

-- borders
cut_up : EachIs (Both IsName IsShort) (with_word (codes "border cut ") (both_spelled (named 32) (ended 10))) kind.Border
cut_up x fits = (border (cut x.0 x.1), record { spelled = (fits.0, fits.1); kind_is = refl }, ap (λ back. codes "border cut " ++ back) (named_text x.0 (decimal x.1)))

borders_are : (z : ReportLine) → IsOfKind kind.Border z → IsLine (Both IsName IsShort) (with_word (codes "border cut ") (both_spelled (named 32) (ended 10))) z ⊎ IsLine IsName (with_word (codes "border joint ") (named 10)) z
borders_are (border (cut track at_m)) fits = inl ((track, at_m), (fits.spelled.0, fits.spelled.1), ap (λ back. codes "border cut " ++ back) (named_text track (decimal at_m)))
borders_are (border (joint name)) fits = inr (name, fits.spelled, refl)
borders_are z fits = absurd (let e : line_kind z ≡ kind.Border = fits.kind_is in cc)

pub border_short : (text : List ℕ) → EndsWithin (Both IsName IsShort) (with_word (codes "border cut ") (both_spelled (named 32) (ended 10))) text → EndsWithin (IsOfKind kind.Border) full_text text
border_short text within = short_as (Both IsName IsShort) (with_word (codes "border cut ") (both_spelled (named 32) (ended 10))) kind.Border text cut_up within

pub border_missed : (text : List ℕ) (miss : Miss) → NeverBegins (Both IsName IsShort) (with_word (codes "border cut ") (both_spelled (named 32) (ended 10))) text → Misses IsName (with_word (codes "border joint ") (named 10)) text miss → Misses (IsOfKind kind.Border) full_text text miss
border_missed text miss never missed =
    misses_either (Both IsName IsShort) (with_word (codes "border cut ") (both_spelled (named 32) (ended 10))) IsName (with_word (codes "border joint ") (named 10)) (IsOfKind kind.Border) full_text text miss
    (λ name fits. (border (joint name), record { spelled = fits; kind_is = refl }, refl)) borders_are never missed

-- a text that begins with words, a name and a number
pub named_front : (text words name digits rest : List ℕ) → text ≡ words ++ (name ++ 32 ∷ (digits ++ 10 ∷ rest)) → text ≡ (words ++ ((name ++ (32 ∷ digits)) ++ 10 ∷ [])) ++ rest
named_front text words name digits rest is =
    is ∙ (ap (λ back. words ++ back) (sym (append_assoc (name ++ (32 ∷ digits)) (10 ∷ []) rest ∙ append_assoc name (32 ∷ digits) (10 ∷ rest))) ∙ sym (append_assoc words ((name ++ (32 ∷ digits)) ++ 10 ∷ []) rest))

-- the first lines of runs
runs_are : AllAre (Both IsName IsShort) (with_word (codes "run ") (both_spelled (named 32) (ended 10))) kind.Run
runs_are (run train start) fits = ((train, start), (fits.spelled.0, fits.spelled.1), ap (λ back. codes "run " ++ back) (named_text train (decimal start)))
runs_are z fits = absurd (let e : line_kind z ≡ kind.Run = fits.kind_is in cc)

pub run_missed : (text : List ℕ) (miss : Miss) → Misses (Both IsName IsShort) (with_word (codes "run ") (both_spelled (named 32) (ended 10))) text miss → Misses (IsOfKind kind.Run) full_text text miss
run_missed text miss missed =
    missed_as (Both IsName IsShort) (with_word (codes "run ") (both_spelled (named 32) (ended 10))) kind.Run text miss
    (λ x fits. (run x.0 x.1, record { spelled = (fits.0, fits.1); kind_is = refl }, ap (λ back. codes "run " ++ back) (named_text x.0 (decimal x.1)))) runs_are missed

-- sweeps
sweeps_are : AllAre AreSweepCells (with_word (codes "sweep") cells_line) kind.Sweep
sweeps_are (sweep cells) fits = (cells, fits.spelled, refl)
sweeps_are z fits = absurd (let e : line_kind z ≡ kind.Sweep = fits.kind_is in cc)

pub sweep_missed : (text : List ℕ) (miss : Miss) → Misses AreSweepCells (with_word (codes "sweep") cells_line) text miss → Misses (IsOfKind kind.Sweep) full_text text miss
sweep_missed text miss missed = missed_as AreSweepCells (with_word (codes "sweep") cells_line) kind.Sweep text miss (λ cells fits. (sweep cells, record { spelled = fits; kind_is = refl }, refl)) sweeps_are missed

-- the first lines of refutations
bounds_are : (z : ReportLine) → IsOfKind kind.Refutes z → IsLine Always (word (codes "refutes given\n")) z ⊎ IsLine IsShort (with_word (codes "refutes ") (ended 10)) z
bounds_are (refutes Given) fits = inl (tt, tt, refl)
bounds_are (refutes (AtMost k)) fits = inr (k, fits.spelled, refl)
bounds_are z fits = absurd (let e : line_kind z ≡ kind.Refutes = fits.kind_is in cc)

pub refutes_short : (text : List ℕ) → EndsWithin {X = Unit {0}} Always (word (codes "refutes given\n")) text → EndsWithin (IsOfKind kind.Refutes) full_text text
refutes_short text within = short_as Always (word (codes "refutes given\n")) kind.Refutes text (λ x _. (refutes Given, record { spelled = tt; kind_is = refl }, refl)) within

pub refutes_missed : (text : List ℕ) (miss : Miss) → NeverBegins {X = Unit {0}} Always (word (codes "refutes given\n")) text → Misses IsShort (with_word (codes "refutes ") (ended 10)) text miss → Misses (IsOfKind kind.Refutes) full_text text miss
refutes_missed text miss never missed =
    misses_either Always (word (codes "refutes given\n")) IsShort (with_word (codes "refutes ") (ended 10)) (IsOfKind kind.Refutes) full_text text miss
    (λ k fits. (refutes (AtMost k), record { spelled = fits; kind_is = refl }, refl)) bounds_are never missed

-- steps
steps_are : AllAre (Both IsInRange Always) (both_spelled step_text (word (10 ∷ []))) kind.Step
steps_are (step s) fits = ((s, tt), (fits.spelled, tt), refl)
steps_are z fits = absurd (let e : line_kind z ≡ kind.Step = fits.kind_is in cc)

step_missed : (text : List ℕ) (miss : Miss) → Misses (Both IsInRange Always) (both_spelled step_text (word (10 ∷ []))) text miss → Misses (IsOfKind kind.Step) full_text text miss
step_missed text miss missed =
    missed_as (Both IsInRange Always) (both_spelled step_text (word (10 ∷ []))) kind.Step text miss
    (λ x fits. (step x.0, record { spelled = fits.0; kind_is = refl }, refl)) steps_are missed

pub no_step : (text : List ℕ) (miss : Miss) → Misses IsInRange step_text text miss → Misses (IsOfKind kind.Step) full_text text miss
no_step text miss missed = step_missed text miss (misses_first IsInRange step_text Always (word (10 ∷ [])) text miss tt tt missed)

pub no_step_end : (text rest : List ℕ) (found : StepText) (miss : Miss) → BeginsWithStep text found rest → MissesText (10 ∷ []) rest miss → Misses (IsOfKind kind.Step) full_text text miss
no_step_end text rest found miss begins missed =
    step_missed text miss (misses_second IsInRange step_text Always (word (10 ∷ [])) text rest miss begins.step step_read_once begins.in_range begins.begins missed)

pub step_found : (text behind rest : List ℕ) (found : StepText) → BeginsWithStep text found behind → behind ≡ 10 ∷ rest → IsFound (IsOfKind kind.Step) text (read.Step found) rest
step_found text behind rest found begins is = record {
  line = step begins.step;
  fits = record { spelled = begins.in_range; kind_is = refl };
  says = begins.is_of;
  is_front = begins.begins ∙ (ap (λ back. step_text begins.step ++ back) is ∙ sym (append_assoc (step_text begins.step) (10 ∷ []) rest));
}

pub sweep_found : (text behind : List ℕ) (cells : Bor (List ℕ)) (rest : List ℕ) → text ≡ codes "sweep" ++ behind → HasCells behind cells.now rest → IsFound (IsOfKind kind.Sweep) text (read.Sweep cells) rest
sweep_found text behind cells rest is has = record {
  line = sweep has.named;
  fits = record { spelled = has.fit; kind_is = refl };
  says = has.are;
  is_front = is ∙ ap (λ back. codes "sweep" ++ back) (has.is_front ∙ (ap (λ front. front ++ 10 ∷ rest) has.are ∙ sym (append_assoc (flat_map spaced has.named) (10 ∷ []) rest)));
}
