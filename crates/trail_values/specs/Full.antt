-- A trail on which every variable is assigned, and the valuation that it gives.
use Rattle.std.specs.Prelude.{◌≡◌, ◌⊎◌, ℕ, ◌+◌, ◌<◌, Bool, true, List, slice_index_or}
use Rattle.sat_core.specs.declared.literal.Lit.{Lit}
use Rattle.sat_core.specs.Clauses.{negated, IsOver}
use Rattle.sat_core.specs.Hints.{is_known}

-- each literal over the variables 1 to vars is true or false
abbrev pub IsFull : ℕ → List Lit → Type 0
IsFull vars known = (lit : Lit) → IsOver vars lit → (is_known known lit ≡ true) ⊎ (is_known known (negated lit) ≡ true)

-- the value at each place says whether the variable is true
abbrev pub AreTruths : ℕ → List Lit → List Bool → Type 0
AreTruths vars known values = (place : ℕ) → place < vars → slice_index_or values place true ≡ is_known known (record { var = record { 0 = place + 1 }; positive = true })
