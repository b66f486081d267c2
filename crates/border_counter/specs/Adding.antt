-- What a call that adds clauses to a formula leaves.
use Rattle.std.specs.Prelude.{◌≡◌, ◌+◌, ◌≤◌, List, ◌++◌, length, sum_by}
use Rattle.sat_core.specs.declared.literal.Lit.{Lit}
use Rattle.sat_core.specs.Storage.{FormulaParts}
use Rattle.gate_tables.specs.Wiring.{GainsFront}

-- all of the clauses stand behind the old ones, and took no more room than theirs
pub record AddsAll (before : FormulaParts) (added : List (List Lit)) (after : FormulaParts) : Type 0 where
  pub vars : after.vars ≡ before.vars
  pub list : after.clauses ≡ before.clauses ++ added
  pub room_for_clauses : before.spare_clauses ≤ after.spare_clauses + length added
  pub room_for_lits : before.spare_lits ≤ after.spare_lits + sum_by length added

-- some of the first of them stand behind the old ones
pub record AddsFront (before : FormulaParts) (added : List (List Lit)) (after : FormulaParts) : Type 0 where
  pub vars : after.vars ≡ before.vars
  pub front : GainsFront before.clauses added after.clauses

-- the formula has room for all of them
abbrev pub HasRoom : FormulaParts → List (List Lit) → Type 0
HasRoom before added = (length added ≤ before.spare_clauses) × (sum_by length added ≤ before.spare_lits)
