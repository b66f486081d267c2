-- A search as one list of events: units that are given and steps that are derived, each in its turn; and what they leave live.
use Rattle.std.specs.Prelude.{◌≡◌, ◌≢◌, ℕ, ◌+◌, ◌-◌, ◌*◌, ◌^◌, ◌<◌, ◌≤◌, Bool, true, false, IsTrue, List, [], ◌∷◌, length, All, ⊤}
use Rattle.sat_core.specs.declared.literal.Lit.{Lit}
use Rattle.sat_core.specs.declared.literal.ClauseId.{ClauseId}
use Rattle.sat_core.specs.Clauses.{IsOver}
use Rattle.sat_core.specs.Derivation.{DerivedStep, adds, drops, ClauseDatabase, database_of, IsAcceptedAdd, IsAcceptedDrop, after, EndsInEmptyClause}
use Rattle.sat_core.specs.Fresh.{IsFresh}

-- a clause of one literal is given, under the next number; or a step is derived
pub data Event : Type 0 where
  gives : Lit → Event
  derives : DerivedStep → Event

-- what the events so far leave: the formula that they began with, the live clauses, how many clauses were added, the number of
-- the unit given last (0 where there is none), and whether the last event added a clause
pub record Search : Type 0 where
  pub formula : List (List Lit)
  pub database : ClauseDatabase
  pub conflicts : ℕ
  pub last_unit : ℕ
  pub just_added : Bool

-- at first the clauses of the formula are live, and nothing is given or derived
abbrev pub search_of : ℕ → List (List Lit) → Search
search_of vars formula = record { formula = formula; database = database_of vars formula; conflicts = 0; last_unit = 0; just_added = false }

-- the number of the next clause
abbrev pub next_number : Search → ℕ
next_number s = s.database.last + 1

-- an event makes a clause live, or ends clauses
abbrev pub after_event : Search → Event → Search
after_event s (gives lit) = record s { database = after s.database (adds (record { 0 = next_number s }) (lit ∷ []) []); last_unit = next_number s; just_added = false }
after_event s (derives (adds id lits hints)) = record s { database = after s.database (adds id lits hints); conflicts = s.conflicts + 1; just_added = true }
after_event s (derives (drops ids)) = record s { database = after s.database (drops ids); just_added = false }

abbrev pub after_events : Search → List Event → Search
after_events s [] = s
after_events s (event ∷ events) = after_events (after_event s event) events

-- a learned clause: it takes the next number, is accepted and is fresh
pub record IsLearned (s : Search) (id : ClauseId) (lits : List Lit) (hints : List ClauseId) : Type 0 where
  pub numbered : id.0 ≡ next_number s
  pub accepted : IsAcceptedAdd s.database id lits hints
  pub fresh : IsFresh s.formula s.database.live lits

-- so many conflicts are 2000, or 4000 more, or 8000 more, each time doubling
unfoldable pub IsDropPlace : ℕ → Type 0
IsDropPlace conflicts = (j : ℕ) × (1 ≤ j) × (conflicts ≡ 2000 * (2 ^ j - 1))

-- Clauses may be dropped directly after the last conflict of such a place: learned ones, and units other than the last.
pub record IsDropped (s : Search) (ids : List ClauseId) : Type 0 where
  pub accepted : IsAcceptedDrop s.database ids
  pub directly : IsTrue s.just_added
  pub in_place : IsDropPlace s.conflicts
  pub may_go : All (λ id. (length s.formula < id.0) × (id.0 ≢ s.last_unit)) ids

abbrev pub IsNext : Search → Event → Type 0
IsNext s (gives lit) = IsOver s.database.vars lit
IsNext s (derives (adds id lits hints)) = IsLearned s id lits hints
IsNext s (derives (drops ids)) = IsDropped s ids

-- each event may come after those before it
abbrev pub AreNext : Search → List Event → Type 0
AreNext s [] = ⊤
AreNext s (event ∷ events) = IsNext s event × AreNext (after_event s event) events

-- the derived steps
abbrev pub log_of : List Event → List DerivedStep
log_of [] = []
log_of (gives lit ∷ events) = log_of events
log_of (derives step ∷ events) = step ∷ log_of events

-- the given units
abbrev pub units_of : List Event → List Lit
units_of [] = []
units_of (gives lit ∷ events) = lit ∷ units_of events
units_of (derives step ∷ events) = units_of events

-- how many clauses the steps add
abbrev pub adds_in : List DerivedStep → ℕ
adds_in [] = 0
adds_in (adds id lits hints ∷ steps) = adds_in steps + 1
adds_in (drops ids ∷ steps) = adds_in steps

-- the events are a search of the formula over the variables 1 to vars, and refute it with the units given
pub record RefutesWithUnits (vars : ℕ) (formula : List (List Lit)) (events : List Event) : Type 0 where
  pub search : AreNext (search_of vars formula) events
  pub empty_last : EndsInEmptyClause (log_of events)
