-- The reasons on a trail: each is a live clause that forces its literal by literals at earlier places.
use Rattle.std.specs.Prelude.{◌≡◌, ◌≢◌, ℕ, ◌<◌, true, List, length, take, All, Contains, Option, Some, None, ⊤, slice_index_or}
use Rattle.sat_core.specs.declared.literal.Lit.{Lit}
use Rattle.sat_core.specs.declared.literal.ClauseId.{ClauseId}
use Rattle.sat_core.specs.Clauses.{negated}
use Rattle.sat_core.specs.Hints.{NumberedClause, clause_of, is_known}
use Rattle.search_trail.specs.declared.entry.Entry.{Entry}
use Rattle.search_trail.specs.Trails.{known_of}

-- the clause is live, holds the literal, and all its other literals are false under these
pub record IsReason (live : List NumberedClause) (front : List Lit) (lit : Lit) (id : ClauseId) : Type 0 where
  pub lits : List Lit
  pub stands : clause_of live id ≡ Some lits
  pub holds : Contains lits lit
  pub others_false : All (λ other. other ≢ lit → is_known front (negated other) ≡ true) lits

-- a decided literal has no reason; else the reason forces it under these
abbrev pub ReasonFits : List NumberedClause → List Lit → Lit → Option ClauseId → Type 0
ReasonFits live front lit None = ⊤
ReasonFits live front lit (Some id) = IsReason live front lit id

-- each reason forces its literal by literals at earlier places
abbrev pub AreReasons : List NumberedClause → List Entry → Type 0
AreReasons live entries = (k : ℕ) (d : Entry) → k < length entries → ReasonFits live (known_of (take k entries)) (slice_index_or entries k d).lit (slice_index_or entries k d).reason
