-- The literals that are known while a step is read, and how they are marked.
use Rattle.std.specs.Prelude.{ℕ, ◌≤◌, Bool, List}
use Rattle.sat_core.specs.declared.literal.Lit.{Lit}
use Rattle.sat_core.specs.Clauses.{HasNoVariableTwice}
use Rattle.sat_core.specs.Marks.{AreMarked}

-- the literals that are known, in the order in which they became so, over the variables 1 to vars
pub record Known : Type 0 where
  pub vars : ℕ
  pub lits : List Lit

-- the marks are those of the known literals, no two of which have one variable; and there is room for a literal of each variable
pub record IsAssigned (vars : ℕ) (marks : List Bool) (known : List Lit) (capacity : ℕ) : Type 0 where
  pub marked : AreMarked vars marks known
  pub no_variable_twice : HasNoVariableTwice known
  pub room : vars ≤ capacity
