-- What the watch solver's state means as a search, and what holds of it.
use Rattle.std.specs.Prelude.{◌≡◌, ◌≢◌, ◌⊎◌, ℕ, ◌+◌, ◌-◌, ◌*◌, ◌<◌, ◌≤◌, Bool, true, false, cond, List, [], ◌∷◌, ◌++◌, length, map, take, drop, All, AllPairs, Any, Option, Some, None}
use Rattle.sat_core.specs.declared.literal.Lit.{Lit}
use Rattle.sat_core.specs.declared.literal.ClauseId.{ClauseId}
use Rattle.sat_core.specs.Derivation.{DerivedStep, adds, EndsInEmptyClause}
use Rattle.sat_core.specs.Hints.{NumberedClause, clause_of}
use Rattle.sat_core.specs.Search.{Event, derives, Search, IsLearned, IsDropPlace, log_of, units_of}
use Rattle.search_trail.specs.Trails.{TrailParts}
use Rattle.conflict_learn.specs.Learning.{IsConflict}
use Rattle.solver_face.specs.Solving.{Solving, IsSound, AddNoEmptyClause, search_now, numbers_used}
use Rattle.activity_order.specs.Choices.{OpenOnesWait}
use Rattle.watch_store.specs.Fits.{FitsTrail, AreShortTrue}
use Rattle.watch_solver.specs.declared.state.State.{State}

-- the formula's clauses are the first live ones
abbrev pub first_clauses : ℕ → List NumberedClause → List (List Lit)
first_clauses given live = map (λ clause. clause.lits) (take given live)

-- the state as contracts see the solver
abbrev pub watch_solving : State → Bool → Solving
watch_solving s starved = record { vars = s.store.vars; formula = first_clauses s.given s.store.live; events = s.history; found = cond s.found (Some s.valuation.values) None; starved = starved }

-- what is refuted ends in the empty clause; else no step adds it
abbrev pub LogEnds : Bool → List DerivedStep → Type 0
LogEnds true steps = EndsInEmptyClause steps
LogEnds false steps = AddNoEmptyClause steps

-- the unit with that number is live; 0 where none was given
abbrev pub LastUnitStands : List NumberedClause → ℕ → Type 0
LastUnitStands live last_unit = (last_unit ≡ 0) ⊎ ((lit : Lit) × (clause_of live (record { 0 = last_unit }) ≡ Some (lit ∷ [])))

-- clauses are dropped at that number of conflicts; never again where it is 0
abbrev pub DropPlaceTells : ℕ → Type 0
DropPlaceTells place = (place ≡ 0) ⊎ IsDropPlace place

-- the live clauses beside the search that its events make: the formula's first, by rising numbers up to the last one; the others
-- aren't empty, and each given unit is live
pub record AreLiveOf (search : Search) (given last : ℕ) (events : List Event) (live : List NumberedClause) : Type 0 where
  pub given_within : given ≤ length live
  pub numbered : All (λ clause. clause.id.0 ≤ last) live
  pub same_live : search.database.live ≡ live
  pub same_last : search.database.last ≡ last
  pub filled : All (λ clause. clause.lits ≢ []) (drop given live)
  pub units : All (λ lit. Any (λ clause. clause.lits ≡ lit ∷ []) live) (units_of events)
  pub front : All (λ clause. clause.id.0 ≤ given) (take given live)
  pub rising : AllPairs (λ one later. one.id.0 < later.id.0) live
  pub last_unit : LastUnitStands live search.last_unit

-- a clause that was false at level 0 as soon as it came; or else there are none such, and the short ones are true
abbrev pub ClashTells : Option ClauseId → List NumberedClause → TrailParts → Type 0
ClashTells None live t = AreShortTrue live t
ClashTells (Some id) live t = IsConflict live t id × (t.present ≡ 0)

-- what holds while nothing is refuted
pub record IsRunning (s : State) : Type 0 where
  pub live : AreLiveOf (search_now (watch_solving s false)) s.given s.last s.history s.store.live
  pub fits : FitsTrail s.store s.trail
  pub waiting : OpenOnesWait s.order s.trail
  pub space : s.space ≡ s.store.vars
  pub values : length s.valuation.values ≡ s.store.vars
  pub stamps : length s.stamps.items ≡ s.store.vars
  pub clash : ClashTells s.clash s.store.live s.trail

-- what holds of the state between any two calls, as long as there was memory
pub record IsWatchState (s : State) : Type 0 where
  pub sound : IsSound (watch_solving s false)
  pub numbers : s.last ≡ numbers_used (watch_solving s false)
  pub log_ends : LogEnds s.refuted (log_of s.history)
  pub drop_place : DropPlaceTells s.drop_at
  pub running : s.refuted ≡ false → IsRunning s

-- what a conflict leaves: one learned step more
pub record IsLearnedStep (old new : State) : Type 0 where
  pub same_vars : new.store.vars ≡ old.store.vars
  pub same_formula : first_clauses new.given new.store.live ≡ first_clauses old.given old.store.live
  pub id : ClauseId
  pub lits : List Lit
  pub hints : List ClauseId
  pub learned : IsLearned (search_now (watch_solving old false)) id lits hints
  pub one_more : new.history ≡ old.history ++ derives (adds id lits hints) ∷ []

-- the solver is seen as before
pub record IsSeenAlike (old new : State) : Type 0 where
  pub vars : new.store.vars ≡ old.store.vars
  pub live : new.store.live ≡ old.store.live
  pub given : new.given ≡ old.given
  pub last : new.last ≡ old.last
  pub history : new.history ≡ old.history
  pub refuted : new.refuted ≡ old.refuted

-- what is left of a search: the conflicts, and then the open variables
abbrev pub still_to_do : State → ℕ → ℕ
still_to_do s left = left * (s.trail.vars + 1) + (s.trail.vars - length s.trail.entries)
