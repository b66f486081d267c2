-- The sizes of a list of clauses.
use Rattle.std.specs.Prelude.{◌<◌, ◌≤◌, ◌+◌, ℕ, List, length}
use Rattle.sat_core.specs.declared.literal.Lit.{Lit}
use Rattle.clause_encoder.specs.declared.task.EncodeRefusal.{EncodeRefusal}
use Rattle.clause_encoder.specs.declared.task.EncodeRefusal.TheVariants.{TooManySweeps, TooManyWalks, TooManyVariables, TooManyClauses, TooManyLiterals, Memory}
use Rattle.clause_encoder.specs.declared.limits.TheConstants.{CLAUSES, LITERALS}
use Rattle.clause_encoder.specs.Writing.{literal_count}

-- with so many units more there are few enough clauses, and literals in them
pub record HasFewClauses (clauses : List (List Lit)) (units : ℕ) : Type 0 where
  pub few : length clauses + units ≤ CLAUSES
  pub few_literals : literal_count clauses + units ≤ LITERALS

-- with so many units more there are too many clauses; or else too many literals in them; want of memory has no cause
abbrev pub IsSizeRefusal : List (List Lit) → ℕ → EncodeRefusal → Type 0
IsSizeRefusal clauses units (TooManySweeps train) = ⊥
IsSizeRefusal clauses units (TooManyWalks section) = ⊥
IsSizeRefusal clauses units TooManyVariables = ⊥
IsSizeRefusal clauses units TooManyClauses = CLAUSES < length clauses + units
IsSizeRefusal clauses units TooManyLiterals = (length clauses + units ≤ CLAUSES) × (LITERALS < literal_count clauses + units)
IsSizeRefusal clauses units Memory = Unit {0}
