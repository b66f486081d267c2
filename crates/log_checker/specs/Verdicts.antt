-- What a log shows of a formula.
use Rattle.std.specs.Prelude.{◌≢◌, ℕ, List, take, slice_get, Option, Some, None}
use Rattle.sat_core.specs.declared.literal.Lit.{Lit}
use Rattle.sat_core.specs.declared.step_fault.StepFault.{StepFault}
use Rattle.sat_core.specs.declared.step_fault.StepFault.TheVariants.{Memory}
use Rattle.sat_core.specs.Derivation.{DerivedStep, ClauseDatabase, database_of, after_all, AreAccepted, IsFaultOf, EndsInEmptyClause, Refutes}
use Rattle.log_checker.specs.declared.verdict.LogVerdict.{LogVerdict}
use Rattle.log_checker.specs.declared.verdict.LogVerdict.TheVariants as verdict

-- the step, if there is one, has the fault
abbrev pub HasFault : ClauseDatabase → Option DerivedStep → StepFault → Type 0
HasFault database None fault = ⊥
HasFault database (Some step) fault = IsFaultOf database step fault

-- the steps before the place are accepted, and the step there has the fault
pub record IsFirstFault (database : ClauseDatabase) (steps : List DerivedStep) (place : ℕ) (fault : StepFault) : Type 0 where
  pub before : AreAccepted database (take place steps)
  pub fails : HasFault (after_all database (take place steps)) (slice_get steps place) fault
  pub not_memory : fault ≢ Memory

-- the verdict on a log of a formula over the variables 1 to vars
abbrev pub IsVerdict : ℕ → List (List Lit) → List DerivedStep → LogVerdict → Type 0
IsVerdict vars clauses steps verdict.Refutes = Refutes vars clauses steps
IsVerdict vars clauses steps (verdict.Bad index fault) = IsFirstFault (database_of vars clauses) steps index fault
IsVerdict vars clauses steps verdict.NoEmptyClause = AreAccepted (database_of vars clauses) steps × ¬ EndsInEmptyClause steps
