-- A text states one refutation, or has one fault.
use Rattle.std.proofs.Common.{◌≡◌, ◌≢◌, ◌-◌, ℕ, zero, suc, List, [], ◌∷◌, Some, slice_get, refl, sym, ap, subst, ◌∙◌, arith}
use Rattle.std.specs.Prelude.{Ok, Err}
use Rattle.derivation_log.specs.declared.step.Bound.{Bound}
use Rattle.derivation_log.specs.declared.step.Refutation.{Refutation}
use Rattle.vss_report.specs.Lines.{ReportLine, header, verdict_done, verdict_impossible, verdict_spent, conflicts, best_none, count, border, run, sweep, smaller_none, refutes, step, end_line, line_kind}
use Rattle.vss_report.specs.Places.{kinds_at, place_after, LinesLead, EndsReport}
use Rattle.vss_report.specs.Refutations.{steps_of_lines, StatesRefutation, IsFault, HasOneRefutationReading}
use Rattle.vss_report.specs.declared.fault.ReportFault.{ReportFault}
use Rattle.vss_report.specs.declared.fault.ReportFault.TheVariants.{BadLine, UnknownName, NoPart, Memory}
use Rattle.vss_report.specs.declared.kind.Kind.{Kind}
use Rattle.vss_report.specs.declared.kind.Kind.TheVariants as kind
use Rattle.vss_report.specs.declared.place.Place.{Place}
use Rattle.vss_report.specs.declared.place.Place.TheVariants.{Start, Log, Finished}
use Rattle.vss_report.proofs.OneDesign.{one_report}
use Rattle.vss_report.proofs.OneFault.{no_bad_line, one_bad_line}

not_in_log : (k : ℕ) → slice_get (kinds_at Log) k ≢ Some kind.Refutes
not_in_log zero is = cc
not_in_log (suc zero) is = cc
not_in_log (suc (suc k)) is = cc

not_log : (other : Kind) (k : ℕ) → other ≢ kind.Step → other ≢ kind.End → slice_get (kinds_at Log) k ≢ Some other
not_log other zero no_step no_end is = no_step (let same : kind.Step ≡ other = cc in sym same)
not_log other (suc zero) no_step no_end is = no_end (let same : kind.End ≡ other = cc in sym same)
not_log other (suc (suc k)) no_step no_end is = cc

nothing_finished : (lines : List ReportLine) (to : Place) (k : ℕ) (l : ReportLine) → LinesLead Finished lines to → slice_get lines k ≢ Some l
nothing_finished [] to k l leads is = cc
nothing_finished (x ∷ lines) to k l leads is = let never : slice_get (kinds_at Finished) leads.0.place ≡ Some (line_kind x) = leads.0.is_there in cc

-- within a log nothing else is refuted
none_in_log : (lines : List ReportLine) (to : Place) (k : ℕ) (bound : Bound) → LinesLead Log lines to → slice_get lines k ≢ Some (refutes bound)
none_in_log [] to k bound leads is = cc
none_in_log (l ∷ lines) to zero bound leads is =
    let one : l ≡ refutes bound = cc in
    not_in_log leads.0.place (subst (λ x. slice_get (kinds_at Log) leads.0.place ≡ Some (line_kind x)) one leads.0.is_there)
none_in_log (step s ∷ lines) to (suc k) bound leads is = none_in_log lines to k bound leads.1 is
none_in_log (end_line ∷ lines) to (suc k) bound leads is = nothing_finished lines to k (refutes bound) leads.1 is
none_in_log (header ∷ lines) to (suc k) bound leads is = absurd (not_log kind.Header leads.0.place (λ same. cc) (λ same. cc) leads.0.is_there)
none_in_log (verdict_done ∷ lines) to (suc k) bound leads is = absurd (not_log kind.Done leads.0.place (λ same. cc) (λ same. cc) leads.0.is_there)
none_in_log (verdict_impossible ∷ lines) to (suc k) bound leads is = absurd (not_log kind.Impossible leads.0.place (λ same. cc) (λ same. cc) leads.0.is_there)
none_in_log (verdict_spent ∷ lines) to (suc k) bound leads is = absurd (not_log kind.Spent leads.0.place (λ same. cc) (λ same. cc) leads.0.is_there)
none_in_log (conflicts n ∷ lines) to (suc k) bound leads is = absurd (not_log kind.Conflicts leads.0.place (λ same. cc) (λ same. cc) leads.0.is_there)
none_in_log (best_none ∷ lines) to (suc k) bound leads is = absurd (not_log kind.BestNone leads.0.place (λ same. cc) (λ same. cc) leads.0.is_there)
none_in_log (count n ∷ lines) to (suc k) bound leads is = absurd (not_log kind.Count leads.0.place (λ same. cc) (λ same. cc) leads.0.is_there)
none_in_log (border name ∷ lines) to (suc k) bound leads is = absurd (not_log kind.Border leads.0.place (λ same. cc) (λ same. cc) leads.0.is_there)
none_in_log (run train start ∷ lines) to (suc k) bound leads is = absurd (not_log kind.Run leads.0.place (λ same. cc) (λ same. cc) leads.0.is_there)
none_in_log (sweep cells ∷ lines) to (suc k) bound leads is = absurd (not_log kind.Sweep leads.0.place (λ same. cc) (λ same. cc) leads.0.is_there)
none_in_log (smaller_none ∷ lines) to (suc k) bound leads is = absurd (not_log kind.SmallerNone leads.0.place (λ same. cc) (λ same. cc) leads.0.is_there)
none_in_log (refutes b ∷ lines) to (suc k) bound leads is = absurd (not_log kind.Refutes leads.0.place (λ same. cc) (λ same. cc) leads.0.is_there)

one_refutes : (from to : Place) (lines : List ReportLine) (i j : ℕ) (bound bound' : Bound) → LinesLead from lines to → slice_get lines i ≡ Some (refutes bound) → slice_get lines j ≡ Some (refutes bound') → (i ≡ j) × (bound ≡ bound')
one_refutes from to [] i j bound bound' leads is is' = absurd cc
one_refutes from to (l ∷ lines) zero zero bound bound' leads is is' = let same : refutes bound ≡ refutes bound' = cc in (refl, cc)
one_refutes from to (l ∷ lines) zero (suc j) bound bound' leads is is' =
    let one : l ≡ refutes bound = cc in
    absurd (none_in_log lines to j bound' (subst (λ x. LinesLead (place_after from x) lines to) one leads.1) is')
one_refutes from to (l ∷ lines) (suc i) zero bound bound' leads is is' =
    let one : l ≡ refutes bound' = cc in
    absurd (none_in_log lines to i bound (subst (λ x. LinesLead (place_after from x) lines to) one leads.1) is)
one_refutes from to (l ∷ lines) (suc i) (suc j) bound bound' leads is is' =
    let more = one_refutes (place_after from l) to lines i j bound bound' leads.1 is is' in
    (omega (arith, more.0), more.1)

-- a text states one refutation
one_statement : (bytes : List ℕ) (r s : Refutation) (n m : ℕ) → StatesRefutation bytes r n → StatesRefutation bytes s m → (r ≡ s) × (n ≡ m)
one_statement bytes r s n m one other =
    let lines = one_report bytes one.report other.report in
    let there : slice_get one.report.lines (m - 1) ≡ Some (refutes s.bound) = subst (λ ls. slice_get ls (m - 1) ≡ Some (refutes s.bound)) (sym lines) other.bound.is_there in
    let same = one_refutes Start Finished one.report.lines (n - 1) (m - 1) r.bound s.bound one.report.leads one.bound.is_there there in
    let steps : r.log.steps ≡ s.log.steps = one.steps ∙ (ap steps_of_lines lines ∙ sym other.steps) in
    let bounds : r.bound ≡ s.bound = same.1 in
    (λ i. record { bound = bounds i; log = record { steps = steps i } }, omega (arith, same.0, one.bound.some, other.bound.some))

stated : (bytes : List ℕ) (fault : ReportFault) → (report : EndsReport Start bytes) → fault ≢ NoPart → fault ≢ Memory → IsFault bytes fault → ⊥
stated bytes (BadLine n) report no_part no_memory fault = no_bad_line Start bytes n report fault
stated bytes (UnknownName n) report no_part no_memory fault = fault
stated bytes NoPart report no_part no_memory fault = no_part refl
stated bytes Memory report no_part no_memory fault = no_memory refl

refutation_no_fault : (bytes : List ℕ) (r : Refutation) (n : ℕ) (fault : ReportFault) → fault ≢ Memory → StatesRefutation bytes r n → IsFault bytes fault → ⊥
refutation_no_fault bytes r n NoPart no_memory states none =
    none.nothing (n - 1) r.bound (subst (λ ls. slice_get ls (n - 1) ≡ Some (refutes r.bound)) (one_report bytes states.report none.report) states.bound.is_there)
refutation_no_fault bytes r n Memory no_memory states fault = no_memory refl
refutation_no_fault bytes r n (BadLine m) no_memory states fault = stated bytes (BadLine m) states.report (λ is. cc) no_memory fault
refutation_no_fault bytes r n (UnknownName m) no_memory states fault = fault

one_fault : (bytes : List ℕ) (one other : ReportFault) → one ≢ Memory → other ≢ Memory → IsFault bytes one → IsFault bytes other → one ≡ other
one_fault bytes Memory other no_memory no_memory' fault fault' = absurd (no_memory refl)
one_fault bytes one Memory no_memory no_memory' fault fault' = absurd (no_memory' refl)
one_fault bytes (UnknownName n) other no_memory no_memory' fault fault' = absurd fault
one_fault bytes one (UnknownName n) no_memory no_memory' fault fault' = absurd fault'
one_fault bytes (BadLine n) (BadLine m) no_memory no_memory' fault fault' = ap BadLine (one_bad_line Start bytes n m fault fault')
one_fault bytes NoPart NoPart no_memory no_memory' fault fault' = refl
one_fault bytes NoPart (BadLine m) no_memory no_memory' fault fault' = absurd (stated bytes (BadLine m) fault.report (λ is. cc) no_memory' fault')
one_fault bytes (BadLine n) NoPart no_memory no_memory' fault fault' = absurd (stated bytes (BadLine n) fault'.report (λ is. cc) no_memory fault)

pub one_refutation : (bytes : List ℕ) → HasOneRefutationReading bytes
one_refutation bytes (Ok one) (Ok other) no_memory no_memory' is is' =
    let same = one_statement bytes one.0 other.0 one.1 other.1 is is' in
    let pair : one ≡ other = λ i. (same.0 i, same.1 i) in
    ap Ok pair
one_refutation bytes (Ok one) (Err fault) no_memory no_memory' is is' = absurd (refutation_no_fault bytes one.0 one.1 fault (λ e. no_memory' (ap Err e)) is is')
one_refutation bytes (Err fault) (Ok other) no_memory no_memory' is is' = absurd (refutation_no_fault bytes other.0 other.1 fault (λ e. no_memory (ap Err e)) is' is)
one_refutation bytes (Err one) (Err other) no_memory no_memory' is is' = ap Err (one_fault bytes one other (λ e. no_memory (ap Err e)) (λ e. no_memory' (ap Err e)) is is')
