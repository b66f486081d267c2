-- Clauses that stand at places, each under a number: which of them are live.
use Rattle.std.specs.Prelude.{◌≡◌, ℕ, ◌+◌, ◌-◌, ◌<◌, List, [], ◌∷◌, ◌++◌, length, replicate, All, Option, Some, None, slice_set, slice_index_or}
use Rattle.sat_core.specs.declared.literal.Lit.{Lit}
use Rattle.sat_core.specs.declared.literal.ClauseId.{ClauseId}
use Rattle.sat_core.specs.Clauses.{IsClause}
use Rattle.sat_core.specs.Hints.{NumberedClause}

-- clauses over the variables 1 to vars, by place; the number of each; and by number the place of the live clause, if there is one
pub record PlacedClauses : Type 0 where
  pub vars : ℕ
  pub clauses : List (List Lit)
  pub numbers : List ClauseId
  pub places : List (Option ℕ)

-- the live clauses from a number on, by the places of these numbers
abbrev pub live_from : List (List Lit) → ℕ → List (Option ℕ) → List NumberedClause
live_from clauses number [] = []
live_from clauses number (None ∷ places) = live_from clauses (number + 1) places
live_from clauses number (Some place ∷ places) = record { id = record { 0 = number }; lits = slice_index_or clauses place [] } ∷ live_from clauses (number + 1) places

-- the live clauses, by rising numbers
abbrev pub live_in : PlacedClauses → List NumberedClause
live_in table = live_from table.clauses 0 table.places

-- the number at that place
abbrev pub number_of_place : PlacedClauses → ℕ → ClauseId
number_of_place table place = slice_index_or table.numbers place (record { 0 = 0 })

-- the clause at that place
abbrev pub clause_at : PlacedClauses → ℕ → List Lit
clause_at table place = slice_index_or table.clauses place []

-- the live clause with this number stands at that place
abbrev pub IsPlacedAt : PlacedClauses → ℕ → ℕ → Type 0
IsPlacedAt table number place = slice_index_or table.places number None ≡ Some place

-- the clause at that place is live
abbrev pub IsLiveAt : PlacedClauses → ℕ → Type 0
IsLiveAt table place = IsPlacedAt table (number_of_place table place).0 place

-- what holds of them
pub record ArePlaced (table : PlacedClauses) : Type 0 where
  pub all_clauses : All (IsClause table.vars) table.clauses
  pub all_numbered : length table.numbers ≡ length table.clauses
  pub within : (number place : ℕ) → IsPlacedAt table number place → place < length table.clauses
  pub numbered : (number place : ℕ) → IsPlacedAt table number place → (number_of_place table place).0 ≡ number

-- one live clause more, between those with lower numbers and those with higher ones
pub record IsInserted (id : ClauseId) (lits : List Lit) (old new : List NumberedClause) : Type 0 where
  pub lower : List NumberedClause
  pub higher : List NumberedClause
  pub were : old ≡ lower ++ higher
  pub are : new ≡ lower ++ record { id = id; lits = lits } ∷ higher
  pub all_lower : All (λ clause. clause.id.0 < id.0) lower
  pub all_higher : All (λ clause. id.0 < clause.id.0) higher

-- one live clause more, at the next place, under a number that no live clause has
abbrev pub with_clause : PlacedClauses → ClauseId → List Lit → PlacedClauses
with_clause table id lits = record {
  vars = table.vars;
  clauses = table.clauses ++ lits ∷ [];
  numbers = table.numbers ++ id ∷ [];
  places = slice_set (table.places ++ replicate (id.0 + 1 - length table.places) None) id.0 (Some (length table.clauses));
}

-- the clause at that place is live no longer
abbrev pub without_clause : PlacedClauses → ℕ → PlacedClauses
without_clause table place = record table { places = slice_set table.places (number_of_place table place).0 None }
