-- What is gathered of lines, line after line.
use Rattle.std.proofs.Common.{◌≡◌, ◌≢◌, ◌<◌, ◌≤◌, ◌+◌, ◌-◌, inl, inr, ℕ, zero, suc, List, [], ◌∷◌, ◌++◌, Option, Some, None, slice_get, length, refl, sym, ap, subst, ◌∙◌, arith, append_assoc, append-nil, length-append}
use Rattle.std.specs.Prelude.{true, false, Result, Ok, Err, OnOk, OnErr, is_err}
use Rattle.std.proofs.lemmas.List.{flat_map_more}
use Rattle.std.proofs.lemmas.Bool.{cases_eq, cases_lt}
use Rattle.std.proofs.lemmas.Option.{slice_get_within}
use Rattle.std.proofs.lemmas.List.Elements.{All-push}
use Rattle.derivation_log.specs.Text.{IsInRange}
use Rattle.derivation_log.specs.Tested.{IsTextOf}
use Rattle.derivation_log.specs.declared.tested.StepText.{StepText}
use Rattle.derivation_log.specs.declared.step.Step.{Step}
use Rattle.derivation_log.specs.declared.step.Bound.{Bound}
use Rattle.derivation_log.specs.declared.step.Refutation.{Refutation}
use Rattle.vss_text.specs.Lines.{lines_of}
use Rattle.vss_text.specs.Reading.{NeverBegins}
use Rattle.vss_report.specs.Lines.{ReportLine, sweep, refutes, step, line_kind, line_text, full_text, text_of_lines, IsSpelled}
use Rattle.vss_report.specs.Places.{place_after, kinds_at, MayStand, LinesLead, EndsReport}
use Rattle.vss_report.specs.Faults.{IsWrongHere, IsBadLine}
use Rattle.vss_report.specs.Readings.{IsFound, SaysLine}
use Rattle.vss_report.specs.Refutations.{steps_of_lines, RefutesAt, StatesRefutation, StatesNone, ReachesStep}
use Rattle.vss_report.specs.Gathered.{AreGathered, HasBound}
use Rattle.vss_report.specs.declared.fault.ReportFault.{ReportFault}
use Rattle.vss_report.specs.declared.fault.ReportFault.TheVariants.{BadLine}
use Rattle.vss_report.specs.declared.gathered.Gathered.{Gathered}
use Rattle.vss_report.specs.declared.place.Place.{Place}
use Rattle.vss_report.specs.declared.place.Place.TheVariants.{Start, Finished}
use Rattle.vss_report.specs.declared.read_line.ReadLine.{ReadLine}
use Rattle.vss_report.specs.declared.read_line.ReadLine.TheVariants as read
use Rattle.vss_report.proofs.FaultLemmas.{IsRead, IsRead-none, wrong_line, short_line}
use Rattle.vss_report.proofs.PlaceLemmas.{leads_one}

-- how far a report is read, from its first line on
pub record IsReadTo (bytes : List ℕ) (number : ℕ) (place : Place) (rest : List ℕ) : Type 0 where
  pub lines : List ReportLine
  pub read : IsRead Start bytes lines place rest
  pub counted : number ≡ length lines + 1
  pub room : length lines + length rest ≤ length bytes

pub some_text : (l : ReportLine) → 0 < length (full_text l)
some_text l = omega (arith, length-append (line_text l) (10 ∷ []))

unfoldable pub IsReadTo-none : (bytes : List ℕ) → IsReadTo bytes 1 Start bytes
IsReadTo-none bytes = record { lines = []; read = IsRead-none Start bytes; counted = refl; room = omega arith }

unfoldable pub IsReadTo-more : (bytes : List ℕ) (number : ℕ) (place : Place) (rest behind : List ℕ) (l : ReportLine) → IsReadTo bytes number place rest → MayStand place l → rest ≡ full_text l ++ behind → IsReadTo bytes (number + 1) (place_after place l) behind
IsReadTo-more bytes number place rest behind l before fits is = record {
  lines = before.lines ++ l ∷ [];
  read = record {
    leads = leads_one Start place before.lines l before.read.leads fits.among;
    spelled = All-push IsSpelled before.lines l before.read.spelled fits.spelled;
    so_far = before.read.so_far ∙ (ap (λ b. text_of_lines before.lines ++ b) is
        ∙ (sym (append_assoc (text_of_lines before.lines) (full_text l) behind) ∙ ap (λ b. b ++ behind) (flat_map_more full_text [] before.lines l)));
  };
  counted = omega (arith, before.counted, length-append before.lines (l ∷ []));
  room = omega (arith, before.room, ap length is, length-append (full_text l) behind, length-append before.lines (l ∷ []), some_text l);
}

-- a fault of the next line is one of the report
pub wrong_here : (bytes : List ℕ) (number : ℕ) (place : Place) (rest : List ℕ) (fault : ReportFault) → IsReadTo bytes number place rest → IsWrongHere place number rest fault → (n : ℕ) × (fault ≡ BadLine n) × IsBadLine bytes n
wrong_here bytes number place rest fault read wrong = elim wrong.wrong [
  | inl here ↦
      let at : wrong.line ≡ length read.lines + 1 = here.0 ∙ read.counted in
      (wrong.line, wrong.is_bad, subst (λ n. IsBadLine bytes n) (sym at) (wrong_line Start place bytes rest read.lines read.read here.1 here.2))
  | inr short ↦
      let found = short_line Start place bytes rest read.lines read.read short.1 in
      let at : wrong.line ≡ length read.lines + length (lines_of rest) + 1 = omega (arith, short.0, read.counted) in
      (wrong.line, wrong.is_bad, subst (λ n. IsBadLine bytes n) (sym at) found.0)
]

-- something stands behind the last line
pub wrong_behind : (bytes : List ℕ) (number : ℕ) (rest : List ℕ) → IsReadTo bytes number Finished rest → 0 < length rest → IsBadLine bytes number
unfolding NeverBegins
wrong_behind bytes number rest read some =
    subst (λ n. IsBadLine bytes n) (sym read.counted) (wrong_line Start Finished bytes rest read.lines read.read some (nothing rest))
  where
    nothing : (rest : List ℕ) → NeverBegins (MayStand Finished) full_text rest
    nothing rest l more after fits same = let never : slice_get (kinds_at Finished) fits.among.place ≡ Some (line_kind l) = fits.among.is_there in cc

pub is_report : (bytes : List ℕ) (number : ℕ) (rest : List ℕ) → IsReadTo bytes number Finished rest → length rest ≡ 0 → EndsReport Start bytes
is_report bytes number [] read none = record { lines = read.lines; leads = read.read.leads; spelled = read.read.spelled; text = read.read.so_far ∙ append-nil (text_of_lines read.lines) }
is_report bytes number (b ∷ rest) read none = absurd (omega arith)

-- a line that gives neither a step nor a bound
abbrev pub IsOther : ReportLine → Type 0
IsOther (step s) = ⊥
IsOther (refutes bound) = ⊥
IsOther l = Unit {0}

-- the steps of lines behind others
pub steps_in-append : (lines more : List ReportLine) → steps_of_lines (lines ++ more) ≡ steps_of_lines lines ++ steps_of_lines more
steps_in-append [] more = refl
steps_in-append (step s ∷ lines) more = ap (λ steps. s ∷ steps) (steps_in-append lines more)
steps_in-append (l ∷ lines) more = steps_in-append lines more

steps_other : (l : ReportLine) → IsOther l → steps_of_lines (l ∷ []) ≡ []
steps_other (step s) other = absurd other
steps_other (refutes bound) other = absurd other
steps_other l other = refl

at_front : (lines : List ReportLine) (l : ReportLine) (k : ℕ) → k < length lines → slice_get (lines ++ l ∷ []) k ≡ slice_get lines k
at_front [] l k within = absurd (omega arith)
at_front (x ∷ lines) l zero within = refl
at_front (x ∷ lines) l (suc k) within = at_front lines l k (omega arith)

at_end : (lines : List ReportLine) (l : ReportLine) → slice_get (lines ++ l ∷ []) (length lines) ≡ Some l
at_end [] l = refl
at_end (x ∷ lines) l = at_end lines l

past_end : (lines : List ReportLine) (l : ReportLine) (k : ℕ) (x : ReportLine) → length lines < k → slice_get (lines ++ l ∷ []) k ≢ Some x
past_end [] l zero x past same = omega arith
past_end [] l (suc k) x past same = cc
past_end (y ∷ lines) l zero x past same = omega arith
past_end (y ∷ lines) l (suc k) x past same = past_end lines l k x (omega arith) same

not_refutes : (l : ReportLine) (bound : Bound) → IsOther l → l ≢ refutes bound
not_refutes (step s) bound other same = absurd other
not_refutes (refutes b) bound other same = absurd other
not_refutes l bound other same = cc

bound_other : (lines : List ReportLine) (l : ReportLine) (found : Option (Bound × ℕ)) → IsOther l → HasBound lines found → HasBound (lines ++ l ∷ []) found
bound_other lines l None other nothing = λ k bound is. elim (cases_lt k (length lines)) [
  | inl before ↦ nothing k bound (sym (at_front lines l k before) ∙ is)
  | inr behind ↦ elim (cases_eq k (length lines)) [
    | inl here ↦
        let same : Some l ≡ Some (refutes bound) = sym (at_end lines l) ∙ (ap (slice_get (lines ++ l ∷ [])) (sym here) ∙ is) in
        let one : l ≡ refutes bound = cc in
        not_refutes l bound other one
    | inr past ↦ past_end lines l k (refutes bound) (omega arith) is
  ]
]
bound_other lines l (Some (bound, n)) other at = record { some = at.some; is_there = at_front lines l (n - 1) (slice_get_within lines (n - 1) (refutes bound) at.is_there) ∙ at.is_there }

is_step_other : (l : ReportLine) (s : Step) → l ≡ step s → (bound : Bound) → l ≢ refutes bound
is_step_other l s is bound same = let never : step s ≡ refutes bound = sym is ∙ same in cc

pub gathered_other : (lines : List ReportLine) (l : ReportLine) (g : Gathered) → IsOther l → AreGathered lines g → AreGathered (lines ++ l ∷ []) g
gathered_other lines l g other before = record {
  bound = bound_other lines l g.bound other before.bound;
  steps = before.steps ∙ sym (steps_in-append lines (l ∷ []) ∙ (ap (λ steps. steps_of_lines lines ++ steps) (steps_other l other) ∙ append-nil (steps_of_lines lines)));
}

pub refutes_at_end : (lines : List ReportLine) (bound : Bound) (number : ℕ) → number ≡ length lines + 1 → RefutesAt (lines ++ refutes bound ∷ []) number bound
refutes_at_end lines bound number is = record {
  some = omega arith;
  is_there =
      let last : number - 1 ≡ length lines = omega arith in
      ap (slice_get (lines ++ refutes bound ∷ [])) last ∙ at_end lines (refutes bound);
}

pub steps_refutes : (lines : List ReportLine) (bound : Bound) → steps_of_lines (lines ++ refutes bound ∷ []) ≡ steps_of_lines lines
steps_refutes lines bound = steps_in-append lines (refutes bound ∷ []) ∙ append-nil (steps_of_lines lines)

pub bound_step : (lines : List ReportLine) (s : Step) (found : Option (Bound × ℕ)) → HasBound lines found → HasBound (lines ++ step s ∷ []) found
bound_step lines s None nothing = λ k bound is. elim (cases_lt k (length lines)) [
  | inl before ↦ nothing k bound (sym (at_front lines (step s) k before) ∙ is)
  | inr behind ↦ elim (cases_eq k (length lines)) [
    | inl here ↦
        let same : Some (step s) ≡ Some (refutes bound) = sym (at_end lines (step s)) ∙ (ap (slice_get (lines ++ step s ∷ [])) (sym here) ∙ is) in
        cc
    | inr past ↦ past_end lines (step s) k (refutes bound) (omega arith) is
  ]
]
bound_step lines s (Some (bound, n)) at = record { some = at.some; is_there = at_front lines (step s) (n - 1) (slice_get_within lines (n - 1) (refutes bound) at.is_there) ∙ at.is_there }

pub steps_step : (lines : List ReportLine) (s : Step) → steps_of_lines (lines ++ step s ∷ []) ≡ steps_of_lines lines ++ s ∷ []
steps_step lines s = steps_in-append lines (step s ∷ [])

abbrev pub IsOtherRead : ReadLine → Type 0
IsOtherRead (read.Refutes bound) = ⊥
IsOtherRead (read.Step text) = ⊥
IsOtherRead found = Unit {0}

-- what was read is no step and no bound
pub says_other : (found : ReadLine) (l : ReportLine) → IsOtherRead found → SaysLine found l → IsOther l
says_other read.Header l other says = subst IsOther (sym says) tt
says_other read.Done l other says = subst IsOther (sym says) tt
says_other read.Impossible l other says = subst IsOther (sym says) tt
says_other read.Spent l other says = subst IsOther (sym says) tt
says_other (read.Conflicts n) l other says = subst IsOther (sym says) tt
says_other read.BestNone l other says = subst IsOther (sym says) tt
says_other (read.Count n) l other says = subst IsOther (sym says) tt
says_other (read.Cut track at_m) l other says = subst IsOther (sym says) tt
says_other (read.Joint name) l other says = subst IsOther (sym says) tt
says_other (read.Run train start) l other says = subst IsOther (sym says) tt
says_other (read.Sweep cells) (sweep named) other says = tt
says_other (read.Sweep cells) l other says = absurd says
says_other read.SmallerNone l other says = subst IsOther (sym says) tt
says_other (read.Refutes bound) l other says = absurd other
says_other (read.Step text) l other says = absurd other
says_other read.End l other says = subst IsOther (sym says) tt

-- a result that isn't Ok, whatever it is
pub on_err_any : {T E : Type 0} (r : Result T E) (P : Type 0) → P → OnErr r P
on_err_any (Ok x) P holds = tt
on_err_any (Err e) P holds = holds

-- what follows where the result is Ok
pub on_ok_then : {T E : Type 0} (r : Result T E) (P Q : Type 0) → OnOk r P → (P → Q) → OnOk r Q
on_ok_then (Ok x) P Q holds then = then holds
on_ok_then (Err e) P Q holds then = tt

pub err_tells : {T E : Type 0} (r : Result T E) (P : Type 0) → is_err r ≡ true → OnErr r P → P
err_tells (Ok x) P is holds = absurd (let never : false ≡ true = is in cc)
err_tells (Err e) P is holds = holds

pub ok_tells : {T E : Type 0} (r : Result T E) (P : Type 0) → is_err r ≡ false → OnOk r P → P
ok_tells (Ok x) P is holds = holds
ok_tells (Err e) P is holds = absurd (let never : true ≡ false = is in cc)

pub steps_some : (found : ReadLine) (text : StepText) (lines : List ReportLine) (l : ReportLine) → found ≡ read.Step text → SaysLine found l → 0 < length (steps_of_lines (lines ++ l ∷ []))
steps_some found text lines l is says = by_line l (subst (λ f. SaysLine f l) is says)
  where
    by_line : (l : ReportLine) → SaysLine (read.Step text) l → 0 < length (steps_of_lines (lines ++ l ∷ []))
    by_line (step s) says = omega (arith, ap length (steps_step lines s), length-append (steps_of_lines lines) (s ∷ []))
    by_line l says = absurd says

pub gathered_refutes : (found : ReadLine) (bound : Bound) (lines : List ReportLine) (l : ReportLine) (g h : Gathered) (number : ℕ) → found ≡ read.Refutes bound → SaysLine found l → number ≡ length lines + 1
    → h.bound ≡ Some (bound, number) → h.steps.items ≡ g.steps.items → AreGathered lines g → AreGathered (lines ++ l ∷ []) h
gathered_refutes found bound lines l g h number is says counted new same before =
    let line_is : l ≡ refutes bound = subst (λ f. SaysLine f l) is says in
    subst (λ x. AreGathered (lines ++ x ∷ []) h) (sym line_is) (record {
      bound = subst (HasBound (lines ++ refutes bound ∷ [])) (sym new) (refutes_at_end lines bound number counted);
      steps = same ∙ (before.steps ∙ sym (steps_refutes lines bound));
    })

pub gathered_step : (found : ReadLine) (text : StepText) (read_step : Step) (lines : List ReportLine) (l : ReportLine) (g h : Gathered) → found ≡ read.Step text → SaysLine found l → IsSpelled l
    → ((other : Step) → IsInRange other → IsTextOf text other → other ≡ read_step)
    → h.bound ≡ g.bound → h.steps.items ≡ g.steps.items ++ read_step ∷ [] → AreGathered lines g → AreGathered (lines ++ l ∷ []) h
gathered_step found text read_step lines l g h is says fits only same grew before = by_line l (subst (λ f. SaysLine f l) is says) fits
  where
    by_line : (l : ReportLine) → SaysLine (read.Step text) l → IsSpelled l → AreGathered (lines ++ l ∷ []) h
    by_line (step s) says fits = record {
      bound = subst (HasBound (lines ++ step s ∷ [])) (sym same) (bound_step lines s g.bound before.bound);
      steps = grew ∙ (ap (λ steps. steps ++ read_step ∷ []) before.steps ∙ (ap (λ one. steps_of_lines lines ++ one ∷ []) (sym (only s fits says)) ∙ sym (steps_step lines s)));
    }
    by_line l says fits = absurd says

pub reaches_step : (bytes : List ℕ) (number : ℕ) (place : Place) (rest behind : List ℕ) (found : ReadLine) → IsReadTo bytes number place rest → (line : IsFound (MayStand place) rest found behind)
    → ((lines : List ReportLine) (l : ReportLine) → SaysLine found l → 0 < length (steps_of_lines (lines ++ l ∷ []))) → ReachesStep bytes
unfolding IsReadTo-more
reaches_step bytes number place rest behind found read line some =
    let more = IsReadTo-more bytes number place rest behind line.line read line.fits line.is_front in
    record {
      lines = more.lines;
      left = behind;
      at = place_after place line.line;
      leads = more.read.leads;
      spelled = more.read.spelled;
      begins = more.read.so_far;
      some = some read.lines line.line line.says;
    }

-- at first nothing is read or gathered; then one line more is
pub none_gathered : (bytes : List ℕ) (g : Gathered) → AreGathered [] g → (read : IsReadTo bytes 1 Start bytes) × AreGathered read.lines g
unfolding IsReadTo-none
none_gathered bytes g gathered = (IsReadTo-none bytes, gathered)

pub more_gathered : (bytes : List ℕ) (number : ℕ) (place : Place) (rest behind : List ℕ) (l : ReportLine) (h : Gathered) → (read : IsReadTo bytes number place rest) → MayStand place l → rest ≡ full_text l ++ behind
    → AreGathered (read.lines ++ l ∷ []) h → (more : IsReadTo bytes (number + 1) (place_after place l) behind) × AreGathered more.lines h
unfolding IsReadTo-more
more_gathered bytes number place rest behind l h read fits is gathered = (IsReadTo-more bytes number place rest behind l read fits is, gathered)

pub states : (bytes : List ℕ) (number : ℕ) (place : Place) (rest : List ℕ) (g : Gathered) (r : Refutation) (bound : Bound) (n : ℕ) → place ≡ Finished → length rest ≡ 0 → (read : IsReadTo bytes number place rest) → AreGathered read.lines g
    → g.bound ≡ Some (bound, n) → r.bound ≡ bound → r.log.steps ≡ g.steps.items → StatesRefutation bytes r n
states bytes number place [] g r bound n at none read gathered found same steps = record {
  report = record { lines = read.lines; leads = subst (LinesLead Start read.lines) at read.read.leads; spelled = read.read.spelled; text = read.read.so_far ∙ append-nil (text_of_lines read.lines) };
  bound = subst (RefutesAt read.lines n) (sym same) (subst (HasBound read.lines) found gathered.bound);
  steps = steps ∙ gathered.steps;
}
states bytes number place (b ∷ rest) g r bound n at none read gathered found same steps = absurd (omega arith)

pub states_none : (bytes : List ℕ) (number : ℕ) (place : Place) (rest : List ℕ) (g : Gathered) → place ≡ Finished → length rest ≡ 0 → (read : IsReadTo bytes number place rest) → AreGathered read.lines g
    → g.bound ≡ None → StatesNone bytes
states_none bytes number place [] g at none read gathered found = record {
  report = record { lines = read.lines; leads = subst (LinesLead Start read.lines) at read.read.leads; spelled = read.read.spelled; text = read.read.so_far ∙ append-nil (text_of_lines read.lines) };
  nothing = subst (HasBound read.lines) found gathered.bound;
}
states_none bytes number place (b ∷ rest) g at none read gathered found = absurd (omega arith)

pub other_read : (found : ReadLine) → ((bound : Bound) → found ≡ read.Refutes bound → ⊥) → ((text : StepText) → found ≡ read.Step text → ⊥) → IsOtherRead found
other_read (read.Refutes bound) no_bound no_step = no_bound bound refl
other_read (read.Step text) no_bound no_step = no_step text refl
other_read found no_bound no_step = tt
