-- Places grouped by the keys that they have.
use Rattle.std.specs.Prelude.{◌≡◌, ◌<◌, ◌↔◌, ℕ, List, [], length, AllPairs, Contains, slice_index_or, slice_index}
use Rattle.sweep_table.specs.declared.ids.SweepId.{SweepId}

-- the places before this one that have the key, rising
pub record IsGroupBelow (keys : List ℕ) (place key : ℕ) (group : List SweepId) : Type 0 where
  pub which : (v : SweepId) → Contains group v ↔ ((v.0 < place) × (slice_index keys v.0 ≡ key))
  pub rising : AllPairs (λ v w. v.0 < w.0) group

-- for each key below the count of keys, the places before this one that have it, rising
pub record AreGroupsBelow (keys : List ℕ) (place : ℕ) (groups : List (List SweepId)) : Type 0 where
  pub for_each : length groups ≡ length keys
  pub each : (key : ℕ) → key < length keys → IsGroupBelow keys place key (slice_index_or groups key [])

-- for each key below the count of keys, the places that have it, rising
abbrev pub AreGroups : List ℕ → List (List SweepId) → Type 0
AreGroups keys = AreGroupsBelow keys (length keys)
