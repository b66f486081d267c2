-- Groups: one number for each place, the same for places that reach each other.
use Rattle.std.specs.Prelude.{◌≡◌, ℕ, ◌<◌, ◌≤◌, ◌↔◌, List, length, slice_index}
use Rattle.node_groups.specs.Reach.{Reaches}

-- two places are of one group exactly if one reaches the other
abbrev pub GroupsByReach : (ℕ → ℕ → Type 0) → List ℕ → Type 0
GroupsByReach R groups =
    (i j : ℕ) → i < length groups → j < length groups → (slice_index groups i ≡ slice_index groups j) ↔ Reaches R i j

-- the group of a place is the lowest place that reaches it
pub record IsLowestOf (R : ℕ → ℕ → Type 0) (place group : ℕ) : Type 0 where
  pub reaches : Reaches R group place
  pub lowest : (k : ℕ) → Reaches R k place → group ≤ k

-- each place's group is the lowest place that reaches it
abbrev pub NamedByLowest : (ℕ → ℕ → Type 0) → List ℕ → Type 0
NamedByLowest R groups = (i : ℕ) → i < length groups → IsLowestOf R i (slice_index groups i)
