-- A search that looks at every clause: what reading a clause tells, and what its trail keeps.
use Rattle.std.specs.Prelude.{ℕ, ◌-◌, ◌<◌, ◌≤◌, List, [], length, All, Option, Some, None, slice_index_or}
use Rattle.sat_core.specs.declared.literal.Lit.{Lit}
use Rattle.sat_core.specs.declared.literal.ClauseId.{ClauseId}
use Rattle.sat_core.specs.Clauses.{IsClause}
use Rattle.sat_core.specs.Derivation.{numbered_from}
use Rattle.sat_core.specs.Fresh.{IsAtRest, IsUnitUnder}
use Rattle.search_trail.specs.Trails.{TrailParts, IsTrail, AreFalse, known_of, up_to}
use Rattle.search_trail.specs.Reasons.{AreReasons}
use Rattle.plain_solver.specs.declared.reading.Reading.{Reading}
use Rattle.plain_solver.specs.declared.reading.Reading.TheVariants.{AtRest, Unit, Conflict}

-- what reading a clause tells
abbrev pub ReadingTells : List Lit → List Lit → Reading → Type 0
ReadingTells known lits AtRest = IsAtRest known lits
ReadingTells known lits (Unit lit) = IsUnitUnder known lits lit
ReadingTells known lits Conflict = AreFalse known lits

-- the literals so far are false, all but this one, which is open
abbrev pub SoFar : List Lit → List Lit → Option Lit → Type 0
SoFar known lits None = AreFalse known lits
SoFar known lits (Some lit) = IsUnitUnder known lits lit

-- the clause with that number is false
pub record IsFalseClause (clauses : List (List Lit)) (t : TrailParts) (id : ClauseId) : Type 0 where
  pub first : 1 ≤ id.0
  pub last : id.0 ≤ length clauses
  pub all_false : AreFalse (known_of t.entries) (slice_index_or clauses (id.0 - 1) [])

-- Clauses and a trail that fit: each reason forces its literal, and at the end of each level below the present one nothing follows
-- at once from any clause.
pub record IsPlain (clauses : List (List Lit)) (t : TrailParts) : Type 0 where
  pub laws : IsTrail t
  pub clauses_over : All (IsClause t.vars) clauses
  pub reasons : AreReasons (numbered_from 1 clauses) t.entries
  pub closed_below : (level : ℕ) → level < t.present → All (IsAtRest (up_to level t.entries)) clauses
