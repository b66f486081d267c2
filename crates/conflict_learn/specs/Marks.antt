-- How marks are kept, so that they are undone by what was touched.
use Rattle.std.specs.Prelude.{◌≡◌, ◌≢◌, ℕ, ◌-◌, ◌≤◌, Bool, true, false, List, length, All, AllPairs, Any, slice_index_or}
use Rattle.sat_core.specs.declared.literal.Var.{Var}

-- each marked place belongs to one of these variables
abbrev pub AreAmong : List Bool → List Var → Type 0
AreAmong flags touched = (n : ℕ) → slice_index_or flags n false ≡ true → Any (λ v. v.0 - 1 ≡ n) touched

-- the touched variables are those that are marked, each once, and there is room for all
pub record IsTouched (flags : List Bool) (touched : List Var) (room : ℕ) : Type 0 where
  pub in_range : All (λ v. (1 ≤ v.0) × (v.0 ≤ length flags)) touched
  pub once : AllPairs (λ one later. one.0 ≢ later.0) touched
  pub all_marked : All (λ v. slice_index_or flags (v.0 - 1) false ≡ true) touched
  pub among : AreAmong flags touched
  pub enough : length flags ≤ room
