-- Laws of derived steps: what accepted steps leave, and that a step is accepted or has one fault.
use Rattle.std.proofs.Common.{◌≡◌, ℕ, suc, ◌-◌, ◌<◌, ◌≤◌, true, false, not, List, [], ◌∷◌, ◌++◌, length, map, refl, sym, ◌∙◌, arith}
use Rattle.std.specs.Prelude.{Option, Some, None}
use Rattle.std.proofs.lemmas.List.Elements.{All-push, All-weaker, All-filter}
use Rattle.sat_core.specs.declared.literal.Lit.{Lit}
use Rattle.sat_core.specs.declared.literal.ClauseId.{ClauseId}
use Rattle.sat_core.specs.declared.step_fault.StepFault.{StepFault}
use Rattle.sat_core.specs.declared.step_fault.StepFault.TheVariants.{IdOrder, UnknownVariable, Twofold, UnknownClause, HintNotUnit, NoConflict, HintsAfterConflict, Memory}
use Rattle.sat_core.specs.Clauses.{negated, IsClause}
use Rattle.sat_core.specs.Hints.{NumberedClause, hints_fault}
use Rattle.sat_core.specs.Derivation.{DerivedStep, adds, drops, ClauseDatabase, database_of, IsAcceptedAdd, IsAccepted, IsFaultOfAdd, IsFaultOf, after, after_all, AreAccepted, EndsInEmptyClause}
use Rattle.sat_core.proofs.HintLaws.{is_early, hints_fault-late}
use Rattle.sat_core.proofs.LiveLaws.{AreUpTo, AreUpTo-numbered, is_one_of}

pub after_all-append : (database : ClauseDatabase) (one other : List DerivedStep) → after_all database (one ++ other) ≡ after_all (after_all database one) other
after_all-append database [] other = refl
after_all-append database (step ∷ one) other = after_all-append (after database step) one other

pub after_all-push : (database : ClauseDatabase) (steps : List DerivedStep) (step : DerivedStep) → after_all database (steps ++ step ∷ []) ≡ after (after_all database steps) step
after_all-push database steps step = after_all-append database steps (step ∷ [])

pub AreAccepted-append : (database : ClauseDatabase) (one other : List DerivedStep) → AreAccepted database one → AreAccepted (after_all database one) other → AreAccepted database (one ++ other)
AreAccepted-append database [] other first second = second
AreAccepted-append database (step ∷ one) other first second = (first.0, AreAccepted-append (after database step) one other first.1 second)

pub AreAccepted-push : (database : ClauseDatabase) (steps : List DerivedStep) (step : DerivedStep) → AreAccepted database steps → IsAccepted (after_all database steps) step → AreAccepted database (steps ++ step ∷ [])
AreAccepted-push database steps step before accepted = AreAccepted-append database steps (step ∷ []) before (accepted, tt)

pub AreAccepted-front : (database : ClauseDatabase) (one other : List DerivedStep) → AreAccepted database (one ++ other) → AreAccepted database one
AreAccepted-front database [] other accepted = tt
AreAccepted-front database (step ∷ one) other accepted = (accepted.0, AreAccepted-front (after database step) one other accepted.1)

pub AreAccepted-behind : (database : ClauseDatabase) (one other : List DerivedStep) → AreAccepted database (one ++ other) → AreAccepted (after_all database one) other
AreAccepted-behind database [] other accepted = accepted
AreAccepted-behind database (step ∷ one) other accepted = AreAccepted-behind (after database step) one other accepted.1

-- no step changes the number of variables
pub vars_after : (database : ClauseDatabase) (step : DerivedStep) → (after database step).vars ≡ database.vars
vars_after database (adds id lits hints) = refl
vars_after database (drops ids) = refl

pub vars_after_all : (database : ClauseDatabase) (steps : List DerivedStep) → (after_all database steps).vars ≡ database.vars
vars_after_all database [] = refl
vars_after_all database (step ∷ steps) = vars_after_all (after database step) steps ∙ vars_after database step

-- live numbers are at most the last
pub AreUpTo-after : (database : ClauseDatabase) (step : DerivedStep) → AreUpTo database.last database.live → IsAccepted database step → AreUpTo (after database step).last (after database step).live
AreUpTo-after database (adds id lits hints) up accepted =
    let above : database.last < id.0 = accepted.in_order in
    All-push (λ c. c.id.0 ≤ id.0) database.live (record { id = id; lits = lits }) (All-weaker (λ (c : NumberedClause). c.id.0 ≤ database.last) (λ c. c.id.0 ≤ id.0) (λ c low. omega arith) database.live up) (omega arith)
AreUpTo-after database (drops ids) up accepted = All-filter (λ clause. not (is_one_of ids clause.id.0)) (λ c. c.id.0 ≤ database.last) database.live up

pub AreUpTo-after_all : (database : ClauseDatabase) (steps : List DerivedStep) → AreUpTo database.last database.live → AreAccepted database steps → AreUpTo (after_all database steps).last (after_all database steps).live
AreUpTo-after_all database [] up accepted = up
AreUpTo-after_all database (step ∷ steps) up accepted = AreUpTo-after_all (after database step) steps (AreUpTo-after database step up accepted.0) accepted.1

pub AreUpTo-first : (vars : ℕ) (clauses : List (List Lit)) → AreUpTo (database_of vars clauses).last (database_of vars clauses).live
AreUpTo-first vars clauses = AreUpTo-numbered 1 (length clauses) clauses (omega arith)

-- the last number never falls
pub last_after : (database : ClauseDatabase) (step : DerivedStep) → IsAccepted database step → database.last ≤ (after database step).last
last_after database (adds id lits hints) accepted = let above : database.last < id.0 = accepted.in_order in omega arith
last_after database (drops ids) accepted = omega arith

-- the fault of its hints is that of an added clause
pub fault_of_hints : (database : ClauseDatabase) (id : ClauseId) (lits : List Lit) (hints : List ClauseId) (why : StepFault) → database.last < id.0 → IsClause database.vars lits → hints_fault database.live (map negated lits) hints ≡ Some why → IsFaultOfAdd database id lits hints why
fault_of_hints database id lits hints why above clause is =
    elim why as (λ why. is_early why ≡ false → hints_fault database.live (map negated lits) hints ≡ Some why → IsFaultOfAdd database id lits hints why) [
      | IdOrder ↦ λ never _. absurd (true_is_not_false never)
      | UnknownVariable ↦ λ never _. absurd (true_is_not_false never)
      | Twofold ↦ λ never _. absurd (true_is_not_false never)
      | UnknownClause ↦ λ _ is. (above, clause, is)
      | HintNotUnit ↦ λ _ is. (above, clause, is)
      | NoConflict ↦ λ _ is. (above, clause, is)
      | HintsAfterConflict ↦ λ _ is. (above, clause, is)
      | Memory ↦ λ never _. absurd (true_is_not_false never)
    ] (hints_fault-late database.live (map negated lits) hints why is) is
  where
    true_is_not_false : true ≡ false → ⊥
    true_is_not_false same = cc

none_is_not_some : (o : Option StepFault) (why : StepFault) → o ≡ None → o ≡ Some why → ⊥
none_is_not_some o why none some = cc

accepted_add_no_fault : (database : ClauseDatabase) (id : ClauseId) (lits : List Lit) (hints : List ClauseId) (why : StepFault) → IsAcceptedAdd database id lits hints → IsFaultOfAdd database id lits hints why → ⊥
accepted_add_no_fault database id lits hints IdOrder accepted has = has accepted.in_order
accepted_add_no_fault database id lits hints UnknownVariable accepted has = has.1 accepted.clause.in_range
accepted_add_no_fault database id lits hints Twofold accepted has = has.2 accepted.clause.no_variable_twice
accepted_add_no_fault database id lits hints Memory accepted has = has
accepted_add_no_fault database id lits hints UnknownClause accepted has = none_is_not_some (hints_fault database.live (map negated lits) hints) UnknownClause accepted.conflict has.2
accepted_add_no_fault database id lits hints HintNotUnit accepted has = none_is_not_some (hints_fault database.live (map negated lits) hints) HintNotUnit accepted.conflict has.2
accepted_add_no_fault database id lits hints NoConflict accepted has = none_is_not_some (hints_fault database.live (map negated lits) hints) NoConflict accepted.conflict has.2
accepted_add_no_fault database id lits hints HintsAfterConflict accepted has = none_is_not_some (hints_fault database.live (map negated lits) hints) HintsAfterConflict accepted.conflict has.2

-- an accepted step has no fault
pub accepted_no_fault : (database : ClauseDatabase) (step : DerivedStep) (why : StepFault) → IsAccepted database step → ¬ IsFaultOf database step why
accepted_no_fault database (adds id lits hints) why accepted has = accepted_add_no_fault database id lits hints why accepted has
accepted_no_fault database (drops ids) UnknownClause accepted has = has accepted
accepted_no_fault database (drops ids) other accepted has = absurd has

one_fault_of_add : (database : ClauseDatabase) (id : ClauseId) (lits : List Lit) (hints : List ClauseId) (one other : StepFault) → IsFaultOfAdd database id lits hints one → IsFaultOfAdd database id lits hints other → one ≡ other
one_fault_of_add database id lits hints Memory other h k = absurd h
one_fault_of_add database id lits hints one Memory h k = absurd k
one_fault_of_add database id lits hints IdOrder IdOrder h k = refl
one_fault_of_add database id lits hints IdOrder other h k = absurd (h k.0)
one_fault_of_add database id lits hints one IdOrder h k = absurd (k h.0)
one_fault_of_add database id lits hints UnknownVariable UnknownVariable h k = refl
one_fault_of_add database id lits hints UnknownVariable Twofold h k = absurd (h.1 k.1)
one_fault_of_add database id lits hints UnknownVariable other h k = absurd (h.1 k.1.in_range)
one_fault_of_add database id lits hints Twofold UnknownVariable h k = absurd (k.1 h.1)
one_fault_of_add database id lits hints one UnknownVariable h k = absurd (k.1 h.1.in_range)
one_fault_of_add database id lits hints Twofold Twofold h k = refl
one_fault_of_add database id lits hints Twofold other h k = absurd (h.2 k.1.no_variable_twice)
one_fault_of_add database id lits hints one Twofold h k = absurd (k.2 h.1.no_variable_twice)
one_fault_of_add database id lits hints one other h k = same_some one other (sym h.2 ∙ k.2)
  where
    same_some : (x y : StepFault) → Some x ≡ Some y → x ≡ y
    same_some x y same = cc

-- a step has one fault at most
pub one_fault : (database : ClauseDatabase) (step : DerivedStep) (one other : StepFault) → IsFaultOf database step one → IsFaultOf database step other → one ≡ other
one_fault database (adds id lits hints) one other h k = one_fault_of_add database id lits hints one other h k
one_fault database (drops ids) UnknownClause UnknownClause h k = refl
one_fault database (drops ids) UnknownClause other h k = absurd k
one_fault database (drops ids) one other h k = absurd h

-- a log of several steps ends as its rest does
pub EndsInEmptyClause-tail : (first second : DerivedStep) (steps : List DerivedStep) → EndsInEmptyClause (first ∷ second ∷ steps) → EndsInEmptyClause (second ∷ steps)
EndsInEmptyClause-tail first second steps ends =
    let one : length (first ∷ second ∷ steps) - 1 ≡ suc (length steps) = omega arith in
    let other : length (second ∷ steps) - 1 ≡ length steps = omega arith in
    rw other (rw one at ends)

pub EndsInEmptyClause-cons : (first second : DerivedStep) (steps : List DerivedStep) → EndsInEmptyClause (second ∷ steps) → EndsInEmptyClause (first ∷ second ∷ steps)
EndsInEmptyClause-cons first second steps ends =
    let one : length (first ∷ second ∷ steps) - 1 ≡ suc (length steps) = omega arith in
    let other : length (second ∷ steps) - 1 ≡ length steps = omega arith in
    rw one (rw other at ends)

pub EndsInEmptyClause-behind : (front : List DerivedStep) (step : DerivedStep) (steps : List DerivedStep) → EndsInEmptyClause (step ∷ steps) → EndsInEmptyClause (front ++ step ∷ steps)
EndsInEmptyClause-behind [] step steps ends = ends
EndsInEmptyClause-behind (first ∷ []) step steps ends = EndsInEmptyClause-cons first step steps ends
EndsInEmptyClause-behind (first ∷ second ∷ front) step steps ends = EndsInEmptyClause-cons first second (front ++ step ∷ steps) (EndsInEmptyClause-behind (second ∷ front) step steps ends)
