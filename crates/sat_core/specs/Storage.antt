-- How a formula is stored: the literals of all clauses in a row, and the place behind each clause's last literal.
use Rattle.std.specs.Prelude.{ℕ, ◌^◌, ◌<◌, List, length, All}
use Rattle.sat_core.specs.declared.literal.Lit.{Lit}
use Rattle.vss_rows.specs.Pieces.{pieces, RisesTo}
use Rattle.sat_core.specs.Clauses.{IsClause}

-- what contracts see of a formula: its number of variables, its clauses, and how many further clauses and literals have room
pub record FormulaParts : Type 0 where
  pub vars : ℕ
  pub clauses : List (List Lit)
  pub spare_clauses : ℕ
  pub spare_lits : ℕ

-- the row and the ends store clauses over the variables 1 to vars
pub record IsStored (vars : ℕ) (row : List Lit) (ends : List ℕ) : Type 0 where
  pub rising : RisesTo 0 ends (length row)
  pub clauses : All (IsClause vars) (pieces row 0 ends)
  pub numbered : length ends < 2 ^ 32
