-- Literals, clauses and their satisfaction by a valuation.
use Rattle.std.specs.Prelude.{◌≡◌, ◌≢◌, ℕ, ◌-◌, ◌≤◌, Bool, not, List, length, All, AllPairs, Any, slice_get, Some}
use Rattle.sat_core.specs.declared.literal.Lit.{Lit}

-- the literal of the same variable with the other sign
abbrev pub negated : Lit → Lit
negated lit = record lit { positive = not lit.positive }

-- the literal's variable is one of the variables 1 to vars
abbrev pub IsOver : ℕ → Lit → Type 0
IsOver vars lit = (1 ≤ lit.var.0) × (lit.var.0 ≤ vars)

-- no variable stands twice among the literals
abbrev pub HasNoVariableTwice : List Lit → Type 0
HasNoVariableTwice lits = AllPairs (λ first later. first.var.0 ≢ later.var.0) lits

-- a clause over the variables 1 to vars
pub record IsClause (vars : ℕ) (lits : List Lit) : Type 0 where
  pub in_range : All (IsOver vars) lits
  pub no_variable_twice : HasNoVariableTwice lits

-- A valuation is a list with one truth value for each variable; variable v has the value at place v - 1.
-- The literal is true in the valuation.
abbrev pub IsTrueIn : List Bool → Lit → Type 0
IsTrueIn values lit = slice_get values (lit.var.0 - 1) ≡ Some lit.positive

-- some literal of the clause is true
unfoldable pub Satisfies : List Bool → List Lit → Type 0
Satisfies values clause = Any (IsTrueIn values) clause

-- each of the clauses is satisfied
abbrev pub SatisfiesAll : List Bool → List (List Lit) → Type 0
SatisfiesAll values clauses = All (Satisfies values) clauses

-- no valuation at all of the variables 1 to vars satisfies the clauses
unfoldable pub IsUnsatisfiable : ℕ → List (List Lit) → Type 0
IsUnsatisfiable vars clauses = (values : List Bool) → length values ≡ vars → ¬ SatisfiesAll values clauses
