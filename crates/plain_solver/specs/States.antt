-- What the plain solver's state means as a search, and what holds of it.
use Rattle.std.specs.Prelude.{◌≡◌, ℕ, ◌+◌, ◌-◌, ◌*◌, ◌^◌, ◌<◌, ◌≤◌, Bool, true, false, cond, List, [], ◌∷◌, ◌++◌, length, take, All, Option, Some, None}
use Rattle.derivation_log.specs.Steps.{derived_steps}
use Rattle.sat_core.specs.declared.literal.Lit.{Lit}
use Rattle.sat_core.specs.declared.literal.ClauseId.{ClauseId}
use Rattle.sat_core.specs.Derivation.{DerivedStep, adds, drops, EndsInEmptyClause, numbered_from}
use Rattle.sat_core.specs.Search.{Event, gives, derives, Search, IsLearned}
use Rattle.solver_face.specs.Solving.{Solving, IsSound, AddNoEmptyClause, search_now}
use Rattle.plain_solver.specs.declared.state.State.{State}
use Rattle.plain_solver.specs.Plain.{IsPlain}

-- units and derived steps as one list: the history says which comes at each place
abbrev pub weave : List (Option Lit) → List DerivedStep → List Event
weave [] steps = []
weave (Some lit ∷ history) steps = gives lit ∷ weave history steps
weave (None ∷ history) [] = []
weave (None ∷ history) (step ∷ steps) = derives step ∷ weave history steps

-- how many derived steps the history has
abbrev pub steps_in : List (Option Lit) → ℕ
steps_in [] = 0
steps_in (Some lit ∷ history) = steps_in history
steps_in (None ∷ history) = steps_in history + 1

-- the clauses that events make live
abbrev pub added_by : List Event → List (List Lit)
added_by [] = []
added_by (gives lit ∷ events) = (lit ∷ []) ∷ added_by events
added_by (derives (adds id lits hints) ∷ events) = lits ∷ added_by events
added_by (derives (drops ids) ∷ events) = added_by events

-- none of the steps drops clauses
abbrev pub IsAdd : DerivedStep → Type 0
IsAdd (adds id lits hints) = Unit {0}
IsAdd (drops ids) = ⊥

-- the formula's clauses
abbrev pub clauses_given : State → List (List Lit)
clauses_given s = take s.given s.clauses.clauses

-- what was given and derived since
abbrev pub events_of : State → List Event
events_of s = weave s.history.items (derived_steps s.log.steps)

-- the state as contracts see the solver
abbrev pub solving_of : State → Bool → Solving
solving_of s starved = record { vars = s.clauses.vars; formula = clauses_given s; events = events_of s; found = cond s.found (Some s.valuation.values) None; starved = starved }

-- the search has come to these clauses, which are all live, numbered from 1
pub record IsAt (search : Search) (vars : ℕ) (formula clauses : List (List Lit)) : Type 0 where
  pub same_vars : search.database.vars ≡ vars
  pub same_formula : search.formula ≡ formula
  pub live : search.database.live ≡ numbered_from 1 clauses
  pub last : search.database.last ≡ length clauses

-- what is refuted ends in the empty clause; else no step adds it
abbrev pub Refuted : Bool → List DerivedStep → Type 0
Refuted true steps = EndsInEmptyClause steps
Refuted false steps = AddNoEmptyClause steps

-- what holds of the state between any two calls
pub record IsState (s : State) : Type 0 where
  pub plain : IsPlain s.clauses.clauses s.trail
  pub vars : s.trail.vars ≡ s.clauses.vars
  pub space : s.space ≡ s.clauses.vars
  pub values : length s.valuation.values ≡ s.clauses.vars
  pub few : length s.clauses.clauses < 2 ^ 32
  pub given : s.given ≤ length s.clauses.clauses
  pub all : s.clauses.clauses ≡ clauses_given s ++ added_by (events_of s)
  pub woven : steps_in s.history.items ≡ length s.log.steps
  pub no_drop : All IsAdd (derived_steps s.log.steps)
  pub sound : IsSound (solving_of s false)
  pub at : IsAt (search_now (solving_of s false)) s.clauses.vars (clauses_given s) s.clauses.clauses
  pub refuted : Refuted s.refuted (derived_steps s.log.steps)

-- what a conflict leaves: one learned step more, behind the others
pub record IsConflictMet (old new : State) : Type 0 where
  pub same_vars : new.clauses.vars ≡ old.clauses.vars
  pub same_formula : clauses_given new ≡ clauses_given old
  pub id : ClauseId
  pub lits : List Lit
  pub hints : List ClauseId
  pub learned : IsLearned (search_now (solving_of old false)) id lits hints
  pub one_more : events_of new ≡ events_of old ++ derives (adds id lits hints) ∷ []
  pub logged : derived_steps new.log.steps ≡ derived_steps old.log.steps ++ adds id lits hints ∷ []

-- only trail, valuation and what was found may have changed
pub record AreSame (old new : State) : Type 0 where
  pub clauses : new.clauses ≡ old.clauses
  pub given : new.given ≡ old.given
  pub history : new.history ≡ old.history
  pub log : new.log ≡ old.log
  pub refuted : new.refuted ≡ old.refuted

-- what is left of a search: the conflicts, and then the open variables
abbrev pub left_over : State → ℕ → ℕ
left_over s left = left * (s.trail.vars + 1) + (s.trail.vars - length s.trail.entries)

-- the search goes on, and comes nearer to its end
pub record GoesOn (old new : State) (had left : ℕ) : Type 0 where
  pub open_yet : new.refuted ≡ false
  pub some : 0 < left
  pub nearer : left_over new left < left_over old had
