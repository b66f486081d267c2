-- Which clauses may be dropped, and what a drop leaves.
use Rattle.std.specs.Prelude.{◌≡◌, ◌≢◌, ◌⊎◌, ℕ, ◌<◌, ◌≤◌, false, not, nat_eq, List, [], ◌∷◌, ◌++◌, length, filter, All, AllPairs, Some}
use Rattle.std.specs.List.{list_any}
use Rattle.sat_core.specs.declared.literal.Lit.{Lit}
use Rattle.sat_core.specs.declared.literal.ClauseId.{ClauseId}
use Rattle.sat_core.specs.Derivation.{drops}
use Rattle.sat_core.specs.Hints.{NumberedClause, clause_of}
use Rattle.sat_core.specs.Search.{derives, IsDropped}
use Rattle.search_trail.specs.declared.entry.Entry.{Entry}
use Rattle.solver_face.specs.Solving.{search_now}
use Rattle.watch_solver.specs.declared.state.State.{State}
use Rattle.watch_solver.specs.Running.{watch_solving, first_clauses}

-- the clause is live, has three or more literals, and is no reason
pub record MayGo (live : List NumberedClause) (entries : List Entry) (id : ClauseId) : Type 0 where
  pub lits : List Lit
  pub stands : clause_of live id ≡ Some lits
  pub long : 3 ≤ length lits
  pub no_reason : All (λ e. e.reason ≢ Some id) entries

-- clauses behind the formula's that may go, each once
pub record AreToGo (live : List NumberedClause) (entries : List Entry) (given : ℕ) (ids : List ClauseId) : Type 0 where
  pub behind : All (λ id. given < id.0) ids
  pub may_go : All (MayGo live entries) ids
  pub rising : AllPairs (λ one later. one.0 < later.0) ids

-- the live clauses without these
abbrev pub without_ids : List ClauseId → List NumberedClause → List NumberedClause
without_ids ids live = filter (λ clause. not (list_any (λ id. nat_eq clause.id.0 id.0) ids)) live

-- nothing is derived, or clauses are dropped
pub record IsDropStep (old new : State) : Type 0 where
  pub same_vars : new.store.vars ≡ old.store.vars
  pub same_formula : first_clauses new.given new.store.live ≡ first_clauses old.given old.store.live
  pub same_last : new.last ≡ old.last
  pub same_refuted : new.refuted ≡ old.refuted
  pub tells : (new.history ≡ old.history) ⊎ ((ids : List ClauseId) × IsDropped (search_now (watch_solving old false)) ids × (new.history ≡ old.history ++ derives (drops ids) ∷ []))
