-- Clauses that are counted and written one after another.
use Rattle.std.specs.Prelude.{◌≡◌, ◌+◌, ◌<◌, ◌≤◌, ◌^◌, ◌*◌, ◌++◌, ℕ, List, Bool, true, length, All}
use Rattle.std.specs.List.{sum_by}
use Rattle.sat_core.specs.declared.literal.Lit.{Lit}
use Rattle.clause_encoder.specs.declared.writer.WriteFault.{WriteFault}
use Rattle.clause_encoder.specs.declared.writer.WriteFault.TheVariants.{Full, Memory}
use Rattle.sat_core.specs.Clauses.{IsClause}
use Rattle.sat_core.specs.Storage.{FormulaParts}

-- how many literals the clauses have together
abbrev pub literal_count : List (List Lit) → ℕ
literal_count clauses = sum_by length clauses

-- A writer: over how many variables, how many clauses it takes at most, how many clauses and literals it has taken, whether
-- it keeps what it takes, what it has kept, and the literals of the clause that is being put together.
pub record Writing : Type 0 where
  pub vars : ℕ
  pub most : ℕ
  pub count : ℕ
  pub lits : ℕ
  pub keeps : Bool
  pub kept : List (List Lit)
  pub open_lits : List Lit

-- the writer took the clauses
pub record Takes (before : Writing) (clauses : List (List Lit)) (after : Writing) : Type 0 where
  pub vars : after.vars ≡ before.vars
  pub most : after.most ≡ before.most
  pub keeps : after.keeps ≡ before.keeps
  pub count : after.count ≡ before.count + length clauses
  pub lits : after.lits ≡ before.lits + literal_count clauses
  pub kept : before.keeps ≡ true → after.kept ≡ before.kept ++ clauses

-- the literals were put to the clause that is being put together, and nothing else changed
abbrev pub Adds : Writing → List Lit → Writing → Type 0
Adds before lits after = after ≡ record before { open_lits = before.open_lits ++ lits }

-- why not all of the clauses were taken: they are more than it takes; want of memory has no cause
unfoldable pub IsCause : Writing → List (List Lit) → WriteFault → Type 0
IsCause w clauses Full = w.most < w.count + length clauses
IsCause w clauses Memory = Unit {0}

-- what the code of a writer keeps
pub record IsWriter (most count lits : ℕ) (keeps : Bool) (f : FormulaParts) : Type 0 where
  pub within : count ≤ most
  pub few : most < 2 ^ 32
  pub few_lits : lits ≤ count * 2 ^ 32
  pub kept : keeps ≡ true → length f.clauses ≡ count

-- each of them is a clause over the variables 1 to vars
pub record AreClauses (vars : ℕ) (clauses : List (List Lit)) : Type 0 where
  pub each : All (IsClause vars) clauses
