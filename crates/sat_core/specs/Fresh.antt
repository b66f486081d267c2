-- Fresh clauses: an added clause that tells something which the live clauses do not tell at once.
use Rattle.std.specs.Prelude.{◌≡◌, ◌≢◌, true, false, List, [], ◌∷◌, ◌⊎◌, All, Any, Contains}
use Rattle.sat_core.specs.declared.literal.Lit.{Lit}
use Rattle.sat_core.specs.Clauses.{negated}
use Rattle.sat_core.specs.Hints.{NumberedClause, is_known}

-- neither the literal nor its negation is known
abbrev pub IsOpen : List Lit → Lit → Type 0
IsOpen known lit = (is_known known lit ≡ false) × (is_known known (negated lit) ≡ false)

-- two different literals of the clause are open
pub record HasTwoOpen (known lits : List Lit) : Type 0 where
  pub one : Lit
  pub other : Lit
  pub one_stands : Contains lits one
  pub other_stands : Contains lits other
  pub different : one ≢ other
  pub one_open : IsOpen known one
  pub other_open : IsOpen known other

-- nothing follows from the clause at once: one of its literals is true, or two are open
unfoldable pub IsAtRest : List Lit → List Lit → Type 0
IsAtRest known lits = Any (λ lit. is_known known lit ≡ true) lits ⊎ HasTwoOpen known lits

-- The known literals are closed over the clauses: never both signs of a variable are known, and each clause is at rest.
pub record IsClosed (known : List Lit) (live : List NumberedClause) : Type 0 where
  pub one_sign : All (λ lit. is_known known (negated lit) ≡ false) known
  pub at_rest : All (λ clause. IsAtRest known clause.lits) live

-- all literals of the clause but this one are false, and this one is open
pub record IsUnitUnder (known lits : List Lit) (lit : Lit) : Type 0 where
  pub stands : Contains lits lit
  pub open_lit : IsOpen known lit
  pub others_false : All (λ other. other ≢ lit → is_known known (negated other) ≡ true) lits

-- A clause is fresh where it is unit under literals that are closed over the live clauses. The empty clause is fresh where no
-- live clause is empty, or where the formula has an empty clause itself.
unfoldable pub IsFresh : List (List Lit) → List NumberedClause → List Lit → Type 0
IsFresh formula live [] = All (λ clause. clause.lits ≢ []) live ⊎ Contains formula []
IsFresh formula live (first ∷ others) = (known : List Lit) × (lit : Lit) × IsClosed known live × IsUnitUnder known (first ∷ others) lit
