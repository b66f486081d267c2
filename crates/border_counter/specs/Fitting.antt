-- What the counter's inputs and variables keep.
use Rattle.std.specs.Prelude.{ℕ, ◌+◌, ◌-◌, ◌≤◌, ◌^◌, ◌<◌, List, length, All}
use Rattle.sat_core.specs.declared.literal.Lit.{Lit}
use Rattle.sat_core.specs.Clauses.{IsOver}
use Rattle.border_counter.specs.Counter.{sum_to}

-- the inputs are over the variables below the first of the counter, and the counter's are variables of the formula
pub record FitsCounter (vars : ℕ) (inputs : List Lit) (first : ℕ) : Type 0 where
  pub inputs_before : All (IsOver (first - 1)) inputs
  pub within : first + sum_to (length inputs) ≤ vars + 1
  pub numbers : vars < 2 ^ 32
