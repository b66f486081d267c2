-- Laws of verdicts: one step more, a step that isn't accepted, and that a log has one verdict.
use Rattle.std.proofs.Common.{◌≡◌, ◌≢◌, ℕ, zero, suc, ◌+◌, ◌<◌, inl, inr, arith, List, [], ◌∷◌, ◌++◌, length, take, get_or, refl, ap, sym, subst, ◌∙◌}
use Rattle.std.specs.Prelude.{Option, Some, None, slice_get, Result, Ok, Err, IfOk}
use Rattle.std.proofs.lemmas.Bool.{cases_order}
use Rattle.std.proofs.lemmas.List.{take_more, get_or-map, length-map}
use Rattle.std.proofs.lemmas.Option.{slice_get-get_or}
use Rattle.sat_core.specs.declared.literal.Lit.{Lit}
use Rattle.sat_core.specs.declared.step_fault.StepFault.{StepFault}
use Rattle.sat_core.specs.declared.step_fault.StepFault.TheVariants.{Memory}
use Rattle.sat_core.specs.Derivation.{DerivedStep, ClauseDatabase, database_of, after, after_all, IsAccepted, IsFaultOf, AreAccepted}
use Rattle.sat_core.proofs.StepLaws.{after_all-push, AreAccepted-push, accepted_no_fault, one_fault}
use Rattle.derivation_log.specs.declared.step.Step.{Step}
use Rattle.derivation_log.specs.Steps.{derived, derived_steps}
use Rattle.log_checker.specs.Verdicts.{HasFault, IsFirstFault, IsVerdict}
use Rattle.log_checker.specs.declared.verdict.LogVerdict.{LogVerdict}
use Rattle.log_checker.specs.declared.verdict.LogVerdict.TheVariants as verdict

-- the step at a place
pub derived_at : (steps : List Step) (place : ℕ) (step : Step) → place < length steps → step ≡ get_or steps place step → get_or (derived_steps steps) place (derived step) ≡ derived step
derived_at steps place step within is = get_or-map derived steps place step (derived step) within ∙ ap derived (sym is)

pub taken_more : (steps : List Step) (place : ℕ) (step : Step) → place < length steps → step ≡ get_or steps place step → take (place + 1) (derived_steps steps) ≡ take place (derived_steps steps) ++ derived step ∷ []
taken_more steps place step within is =
    let within' : place < length (derived_steps steps) = rw (length-map steps derived) within in
    take_more (derived_steps steps) place (derived step) within' ∙ ap (λ last. take place (derived_steps steps) ++ last ∷ []) (derived_at steps place step within is)

-- a step taken, and one refused
pub accepted_more : (database now next : ClauseDatabase) (steps : List Step) (place : ℕ) (step : Step) → place < length steps → step ≡ get_or steps place step → now ≡ after_all database (take place (derived_steps steps)) → AreAccepted database (take place (derived_steps steps)) → IsAccepted now (derived step) → next ≡ after now (derived step) → (next ≡ after_all database (take (place + 1) (derived_steps steps))) × AreAccepted database (take (place + 1) (derived_steps steps))
accepted_more database now next steps place step within is now_is before accepted next_is =
    let more = taken_more steps place step within is in
    rw more (
      next_is ∙ (ap (λ there. after there (derived step)) now_is ∙ sym (after_all-push database (take place (derived_steps steps)) (derived step))),
      AreAccepted-push database (take place (derived_steps steps)) (derived step) before (subst (λ there. IsAccepted there (derived step)) now_is accepted),
    )

pub first_fault_at : (database now : ClauseDatabase) (steps : List Step) (place : ℕ) (step : Step) (fault : StepFault) → place < length steps → step ≡ get_or steps place step → now ≡ after_all database (take place (derived_steps steps)) → AreAccepted database (take place (derived_steps steps)) → fault ≢ Memory → IsFaultOf now (derived step) fault → IsFirstFault database (derived_steps steps) place fault
first_fault_at database now steps place step fault within is now_is before not_memory has =
    let within' : place < length (derived_steps steps) = rw (length-map steps derived) within in
    let at : slice_get (derived_steps steps) place ≡ Some (derived step) = slice_get-get_or (derived_steps steps) place (derived step) within' ∙ ap Some (derived_at steps place step within is) in
    record {
      before = before;
      fails = subst (λ found. HasFault (after_all database (take place (derived_steps steps))) found fault) (sym at) (subst (λ there. IsFaultOf there (derived step) fault) now_is has);
      not_memory = not_memory;
    }

pub if_ok : {T E : Type 0} (r : Result T E) (P Q : T → Type 0) → ((value : T) → P value → Q value) → IfOk r P → IfOk r Q
if_ok (Ok value) P Q weaker holds = weaker value holds
if_ok (Err e) P Q weaker holds = holds

-- accepted steps, and those before a place, have no fault
no_fault_at : (database : ClauseDatabase) (steps : List DerivedStep) (place : ℕ) (fault : StepFault) → AreAccepted database steps → HasFault (after_all database (take place steps)) (slice_get steps place) fault → ⊥
no_fault_at database [] place fault accepted has = has
no_fault_at database (step ∷ steps) zero fault accepted has = accepted_no_fault database step fault accepted.0 has
no_fault_at database (step ∷ steps) (suc place) fault accepted has = no_fault_at (after database step) steps place fault accepted.1 has

no_fault_before : (database : ClauseDatabase) (steps : List DerivedStep) (place later : ℕ) (fault : StepFault) → place < later → AreAccepted database (take later steps) → HasFault (after_all database (take place steps)) (slice_get steps place) fault → ⊥
no_fault_before database [] place later fault before accepted has = has
no_fault_before database (step ∷ steps) place zero fault before accepted has = absurd (omega arith)
no_fault_before database (step ∷ steps) zero (suc later) fault before accepted has = accepted_no_fault database step fault accepted.0 has
no_fault_before database (step ∷ steps) (suc place) (suc later) fault before accepted has = no_fault_before (after database step) steps place later fault (omega arith) accepted.1 has

one_fault_of : (database : ClauseDatabase) (found : Option DerivedStep) (one other : StepFault) → HasFault database found one → HasFault database found other → one ≡ other
one_fault_of database None one other h k = absurd h
one_fault_of database (Some step) one other h k = one_fault database step one other h k

one_bad : (database : ClauseDatabase) (steps : List DerivedStep) (i j : ℕ) (one other : StepFault) → IsFirstFault database steps i one → IsFirstFault database steps j other → verdict.Bad i one ≡ verdict.Bad j other
one_bad database steps i j one other h k = elim (cases_order i j) [
  | inl same ↦ let has = subst (λ place. HasFault (after_all database (take place steps)) (slice_get steps place) one) same h.fails in ap (λ place. verdict.Bad place one) same ∙ ap (verdict.Bad j) (one_fault_of (after_all database (take j steps)) (slice_get steps j) one other has k.fails)
  | inr (inl before) ↦ absurd (no_fault_before database steps i j one before k.before h.fails)
  | inr (inr behind) ↦ absurd (no_fault_before database steps j i other behind h.before k.fails)
]

-- a log has one verdict
pub one_verdict : (vars : ℕ) (clauses : List (List Lit)) (steps : List DerivedStep) (one other : LogVerdict) → IsVerdict vars clauses steps one → IsVerdict vars clauses steps other → one ≡ other
one_verdict vars clauses steps verdict.Refutes verdict.Refutes h k = refl
one_verdict vars clauses steps verdict.Refutes (verdict.Bad j other) h k = absurd (no_fault_at (database_of vars clauses) steps j other h.accepted k.fails)
one_verdict vars clauses steps verdict.Refutes verdict.NoEmptyClause h k = absurd (k.1 h.empty_last)
one_verdict vars clauses steps (verdict.Bad i one) verdict.Refutes h k = absurd (no_fault_at (database_of vars clauses) steps i one k.accepted h.fails)
one_verdict vars clauses steps (verdict.Bad i one) (verdict.Bad j other) h k = one_bad (database_of vars clauses) steps i j one other h k
one_verdict vars clauses steps (verdict.Bad i one) verdict.NoEmptyClause h k = absurd (no_fault_at (database_of vars clauses) steps i one k.0 h.fails)
one_verdict vars clauses steps verdict.NoEmptyClause verdict.Refutes h k = absurd (h.1 k.empty_last)
one_verdict vars clauses steps verdict.NoEmptyClause (verdict.Bad j other) h k = absurd (no_fault_at (database_of vars clauses) steps j other h.0 k.fails)
one_verdict vars clauses steps verdict.NoEmptyClause verdict.NoEmptyClause h k = refl
