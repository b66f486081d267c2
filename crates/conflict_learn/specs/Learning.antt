-- What learning asks of a trail, and what it gives.
use Rattle.std.specs.Prelude.{◌≡◌, ◌⊎◌, ℕ, ◌<◌, true, List, [], ◌∷◌, length, map, All, Any, None, Some, slice_index_or}
use Rattle.sat_core.specs.declared.literal.Lit.{Lit}
use Rattle.sat_core.specs.declared.literal.ClauseId.{ClauseId}
use Rattle.sat_core.specs.Clauses.{negated, IsClause}
use Rattle.sat_core.specs.Hints.{NumberedClause, clause_of, is_known, hints_fault}
use Rattle.search_trail.specs.declared.entry.Entry.{Entry}
use Rattle.search_trail.specs.Trails.{TrailParts, known_of, up_to}

-- what learning asks for: the clause is live and false, and above level 0 it has a literal of the present level
pub record IsConflict (live : List NumberedClause) (t : TrailParts) (id : ClauseId) : Type 0 where
  pub lits : List Lit
  pub stands : clause_of live id ≡ Some lits
  pub all_false : All (λ lit. is_known (known_of t.entries) (negated lit) ≡ true) lits
  pub at_present : 0 < t.present → Any (λ lit. Any (λ e. (e.lit ≡ negated lit) × (e.level ≡ t.present)) t.entries) lits

-- A false clause with one literal of the present level, in front. The others are false at levels up to a lower one, which is the
-- greatest of theirs, or 0.
pub record IsAsserting (t : TrailParts) (lits : List Lit) (level : ℕ) : Type 0 where
  pub lit : Lit
  pub rest : List Lit
  pub is : lits ≡ lit ∷ rest
  pub place : ℕ
  pub within : place < length t.entries
  pub false_here : (d : Entry) → ((slice_index_or t.entries place d).lit ≡ negated lit) × ((slice_index_or t.entries place d).level ≡ t.present)
  pub lower : level < t.present
  pub others : All (λ other. is_known (up_to level t.entries) (negated other) ≡ true) rest
  pub greatest : (level ≡ 0) ⊎ Any (λ other. Any (λ e. (e.lit ≡ negated other) × (e.level ≡ level)) t.entries) rest

-- what learning gives: a clause that the hints show to follow; it is empty at level 0, and asserting above it
pub record IsLearnedFrom (live : List NumberedClause) (t : TrailParts) (lits : List Lit) (hints : List ClauseId) (level : ℕ) : Type 0 where
  pub clause : IsClause t.vars lits
  pub accepted : hints_fault live (map negated lits) hints ≡ None
  pub at_zero : t.present ≡ 0 → lits ≡ []
  pub stays_at_zero : t.present ≡ 0 → level ≡ 0
  pub asserting : 0 < t.present → IsAsserting t lits level
