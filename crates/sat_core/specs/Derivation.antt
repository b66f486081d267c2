-- Derived steps: which of them are accepted, what they leave, and when a log of them refutes a formula.
use Rattle.std.specs.Prelude.{◌≡◌, ◌≢◌, ℕ, ◌+◌, ◌-◌, ◌<◌, not, nat_eq, List, [], ◌∷◌, ◌++◌, length, map, filter, All, AllPairs, IsSome, Option, Some, None, slice_get, ⊤}
use Rattle.std.specs.List.{list_any}
use Rattle.sat_core.specs.declared.literal.Lit.{Lit}
use Rattle.sat_core.specs.declared.literal.ClauseId.{ClauseId}
use Rattle.sat_core.specs.declared.step_fault.StepFault.{StepFault}
use Rattle.sat_core.specs.declared.step_fault.StepFault.TheVariants.{IdOrder, UnknownVariable, Twofold, UnknownClause, Memory}
use Rattle.sat_core.specs.Clauses.{negated, IsOver, HasNoVariableTwice, IsClause}
use Rattle.sat_core.specs.Hints.{NumberedClause, clause_of, hints_fault}

-- a step: it adds a clause under a number, with hints; or it drops the clauses with these numbers
pub data DerivedStep : Type 0 where
  adds : ClauseId → List Lit → List ClauseId → DerivedStep
  drops : List ClauseId → DerivedStep

-- what a step is judged by: the number of variables, the greatest number so far, and the live clauses
pub record ClauseDatabase : Type 0 where
  pub vars : ℕ
  pub last : ℕ
  pub live : List NumberedClause

-- the clauses with the numbers from `first` on
abbrev pub numbered_from : ℕ → List (List Lit) → List NumberedClause
numbered_from first [] = []
numbered_from first (clause ∷ clauses) = record { id = record { 0 = first }; lits = clause } ∷ numbered_from (first + 1) clauses

-- at first the clauses of the formula are live, numbered from 1
abbrev pub database_of : ℕ → List (List Lit) → ClauseDatabase
database_of vars clauses = record { vars = vars; last = length clauses; live = numbered_from 1 clauses }

-- An added clause is accepted: its number is above all earlier ones, it is a clause, and its hints lead to a conflict where
-- its literals are false.
pub record IsAcceptedAdd (database : ClauseDatabase) (id : ClauseId) (lits : List Lit) (hints : List ClauseId) : Type 0 where
  pub in_order : database.last < id.0
  pub clause : IsClause database.vars lits
  pub conflict : hints_fault database.live (map negated lits) hints ≡ None

-- a drop is accepted: each clause that it names is live, and none is named twice
pub record IsAcceptedDrop (database : ClauseDatabase) (ids : List ClauseId) : Type 0 where
  pub all_live : All (λ id. IsSome (clause_of database.live id)) ids
  pub none_twice : AllPairs (λ first later. first.0 ≢ later.0) ids

abbrev pub IsAccepted : ClauseDatabase → DerivedStep → Type 0
IsAccepted database (adds id lits hints) = IsAcceptedAdd database id lits hints
IsAccepted database (drops ids) = IsAcceptedDrop database ids

-- the first test that an added clause fails; the tests before it are passed
abbrev pub IsFaultOfAdd : ClauseDatabase → ClauseId → List Lit → List ClauseId → StepFault → Type 0
IsFaultOfAdd database id lits hints IdOrder = ¬ (database.last < id.0)
IsFaultOfAdd database id lits hints UnknownVariable = (database.last < id.0) × ¬ All (IsOver database.vars) lits
IsFaultOfAdd database id lits hints Twofold = (database.last < id.0) × All (IsOver database.vars) lits × ¬ HasNoVariableTwice lits
IsFaultOfAdd database id lits hints Memory = ⊥
IsFaultOfAdd database id lits hints fault = (database.last < id.0) × IsClause database.vars lits × (hints_fault database.live (map negated lits) hints ≡ Some fault)

-- a drop has no other fault
abbrev pub IsFaultOfDrop : ClauseDatabase → List ClauseId → StepFault → Type 0
IsFaultOfDrop database ids UnknownClause = ¬ IsAcceptedDrop database ids
IsFaultOfDrop database ids fault = ⊥

-- the fault of a step that isn't accepted
abbrev pub IsFaultOf : ClauseDatabase → DerivedStep → StepFault → Type 0
IsFaultOf database (adds id lits hints) fault = IsFaultOfAdd database id lits hints fault
IsFaultOf database (drops ids) fault = IsFaultOfDrop database ids fault

-- what an accepted step leaves: an added clause is live, dropped clauses are no longer
abbrev pub after : ClauseDatabase → DerivedStep → ClauseDatabase
after database (adds id lits hints) = record database { last = id.0; live = database.live ++ record { id = id; lits = lits } ∷ [] }
after database (drops ids) = record database { live = filter (λ clause. not (list_any (λ id. nat_eq clause.id.0 id.0) ids)) database.live }

abbrev pub after_all : ClauseDatabase → List DerivedStep → ClauseDatabase
after_all database [] = database
after_all database (step ∷ steps) = after_all (after database step) steps

-- each step is accepted over what the steps before it leave
abbrev pub AreAccepted : ClauseDatabase → List DerivedStep → Type 0
AreAccepted database [] = ⊤
AreAccepted database (step ∷ steps) = IsAccepted database step × AreAccepted (after database step) steps

abbrev pub AddsEmptyClause : Option DerivedStep → Type 0
AddsEmptyClause (Some (adds id [] hints)) = ⊤
AddsEmptyClause (Some (adds id (lit ∷ lits) hints)) = ⊥
AddsEmptyClause (Some (drops ids)) = ⊥
AddsEmptyClause None = ⊥

-- the last step adds the empty clause
abbrev pub EndsInEmptyClause : List DerivedStep → Type 0
EndsInEmptyClause steps = AddsEmptyClause (slice_get steps (length steps - 1))

-- the log refutes the formula of these clauses over the variables 1 to vars
pub record Refutes (vars : ℕ) (clauses : List (List Lit)) (steps : List DerivedStep) : Type 0 where
  pub accepted : AreAccepted (database_of vars clauses) steps
  pub empty_last : EndsInEmptyClause steps
