-- What the drop of several clauses does to the marks of dropped clauses.
use Rattle.std.specs.Prelude.{◌≡◌, ◌≢◌, ℕ, ◌+◌, ◌<◌, ◌≤◌, Bool, false, ◌&&◌, ◌||◌, not, nat_eq, List, length, All, AllPairs}
use Rattle.std.specs.List.{list_any}
use Rattle.sat_core.specs.declared.literal.ClauseId.{ClauseId}
use Rattle.log_checker.specs.declared.dropped.Dropped.{Dropped}
use Rattle.log_checker.specs.Stored.{number_at, is_dropped}

-- whether the numbers hold this one
abbrev pub is_named : List ClauseId → ℕ → Bool
is_named ids number = list_any (λ id. nat_eq number id.0) ids

-- some place has the number, and its clause isn't dropped
unfoldable pub IsLiveNumber : List ClauseId → Dropped → ClauseId → Type 0
IsLiveNumber numbers dropped id = (place : ℕ) × (place < dropped.own + length numbers) × (number_at dropped.own numbers place ≡ id.0) × (is_dropped dropped place ≡ false)

-- each number is that of a live clause, and none stands twice
pub record CanDrop (numbers : List ClauseId) (dropped : Dropped) (ids : List ClauseId) : Type 0 where
  pub all_live : All (IsLiveNumber numbers dropped) ids
  pub none_twice : AllPairs (λ first later. first.0 ≢ later.0) ids

-- the clauses with these numbers are dropped as well, and nothing else changes
pub record DropsAlso (numbers : List ClauseId) (old new : Dropped) (ids : List ClauseId) : Type 0 where
  pub same_own : new.own ≡ old.own
  pub same_size : length new.flags.items ≡ length old.flags.items
  pub here : (place : ℕ) → place < old.own + length numbers → is_dropped new place ≡ (is_dropped old place || is_named ids (number_at old.own numbers place))
  pub behind : (place : ℕ) → old.own + length numbers ≤ place → is_dropped new place ≡ is_dropped old place

-- the clauses with these numbers are no longer dropped, and nothing else changes
pub record Revives (numbers : List ClauseId) (old new : Dropped) (ids : List ClauseId) : Type 0 where
  pub same_own : new.own ≡ old.own
  pub same_size : length new.flags.items ≡ length old.flags.items
  pub here : (place : ℕ) → place < old.own + length numbers → is_dropped new place ≡ (is_dropped old place && not (is_named ids (number_at old.own numbers place)))
  pub behind : (place : ℕ) → old.own + length numbers ≤ place → is_dropped new place ≡ is_dropped old place

-- the same clauses are dropped
pub record SameDrops (old new : Dropped) : Type 0 where
  pub same_own : new.own ≡ old.own
  pub same_size : length new.flags.items ≡ length old.flags.items
  pub same : (place : ℕ) → is_dropped new place ≡ is_dropped old place
