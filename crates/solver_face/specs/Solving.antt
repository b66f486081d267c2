-- What a solver is given, what it has derived, and what its answers show.
use Rattle.std.specs.Prelude.{◌≡◌, ℕ, ◌+◌, ◌-◌, ◌<◌, Bool, List, [], ◌∷◌, ◌++◌, length, map, All, Option, Some, None, slice_get, ⊤}
use Rattle.sat_core.specs.declared.literal.Lit.{Lit}
use Rattle.sat_core.specs.declared.literal.ClauseId.{ClauseId}
use Rattle.sat_core.specs.Clauses.{IsTrueIn, SatisfiesAll}
use Rattle.sat_core.specs.Derivation.{DerivedStep, adds, drops, AddsEmptyClause, EndsInEmptyClause}
use Rattle.sat_core.specs.Search.{Event, derives, Search, search_of, after_events, AreNext, log_of, units_of, adds_in}
use Rattle.solver_face.specs.declared.answer.Answer.{Answer}
use Rattle.solver_face.specs.declared.answer.Answer.TheVariants as answer

-- what contracts see of a solver: its formula over the variables 1 to vars, what was given and derived since, the valuation that
-- it found last, if it found one, and whether it met want of memory
pub record Solving : Type 0 where
  pub vars : ℕ
  pub formula : List (List Lit)
  pub events : List Event
  pub found : Option (List Bool)
  pub starved : Bool

-- The events of the solver are a search of its formula: each derived clause was accepted and fresh at its time, and clauses were
-- dropped only where they may be.
pub record IsSound (s : Solving) : Type 0 where
  pub events : AreNext (search_of s.vars s.formula) s.events

-- what the events leave
abbrev pub search_now : Solving → Search
search_now s = after_events (search_of s.vars s.formula) s.events

-- how many clause numbers are in use
abbrev pub numbers_used : Solving → ℕ
numbers_used s = length s.formula + length (units_of s.events) + adds_in (log_of s.events)

-- none of the steps adds the empty clause
abbrev pub AddNoEmptyClause : List DerivedStep → Type 0
AddNoEmptyClause steps = All (λ step. ¬ AddsEmptyClause (Some step)) steps

-- the last step adds a clause
abbrev pub EndsInAdd : List DerivedStep → Type 0
EndsInAdd steps = (id : ClauseId) × (lits : List Lit) × (hints : List ClauseId) × (slice_get steps (length steps - 1) ≡ Some (adds id lits hints))

-- the log ends in the empty clause: with the units it refutes the formula
abbrev pub IsRefuted : Solving → Type 0
IsRefuted s = EndsInEmptyClause (log_of s.events)

-- the valuation has a value for each variable, and satisfies the formula and the units
pub record IsSolution (s : Solving) (values : List Bool) : Type 0 where
  pub for_each : length values ≡ s.vars
  pub formula : SatisfiesAll values s.formula
  pub units : All (IsTrueIn values) (units_of s.events)

-- a call drops nothing before its first conflict
abbrev pub BeginsWithNoDrop : List DerivedStep → Type 0
BeginsWithNoDrop [] = ⊤
BeginsWithNoDrop (adds id lits hints ∷ steps) = ⊤
BeginsWithNoDrop (drops ids ∷ steps) = ⊥

-- A search from the one state to the other: the formula is the same, only steps were derived since, and each conflict among them
-- spent one of the budget.
pub record Searched (before now : Solving) (had left : ℕ) : Type 0 where
  pub same_vars : now.vars ≡ before.vars
  pub same_formula : now.formula ≡ before.formula
  pub steps : List DerivedStep
  pub begins : BeginsWithNoDrop steps
  pub grew : now.events ≡ before.events ++ map derives steps
  pub spent : left + adds_in steps ≡ had
  pub sound : IsSound now

-- the valuation is shown, and satisfies the formula and the units
abbrev pub ShowsSolution : Solving → Option (List Bool) → Type 0
ShowsSolution s None = ⊥
ShowsSolution s (Some values) = IsSolution s values

-- What an answer shows, with so much of the budget left. Spent comes exactly where nothing is left and the last conflict didn't
-- add the empty clause: Sat asks for some that is left, and Unsat for the empty clause.
abbrev pub IsAnswer : Solving → ℕ → Answer → Type 0
IsAnswer s left answer.Sat = ShowsSolution s s.found × (0 < left)
IsAnswer s left answer.Unsat = IsRefuted s
IsAnswer s left answer.Spent = (left ≡ 0) × EndsInAdd (log_of s.events) × AddNoEmptyClause (log_of s.events)
