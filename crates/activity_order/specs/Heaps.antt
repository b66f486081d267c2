-- The heap behind the order: all variables in a row, of which the first wait, and what their order is.
use Rattle.std.specs.Prelude.{◌≡◌, ◌≢◌, ◌⊎◌, ℕ, ◌+◌, ◌*◌, ◌<◌, ◌≤◌, Bool, not, nat_le, List, length, map, slice_index}
use Rattle.activity_order.specs.Scores.{rank}

-- in a heap each place has up to two places below it
abbrev pub IsChild : ℕ → ℕ → Type 0
IsChild parent child = (child ≡ 2 * parent + 1) ⊎ (child ≡ 2 * parent + 2)

-- the heap has each number once, and the places say where
pub record IsPlaced (heap places : List ℕ) : Type 0 where
  pub long : length heap ≡ length places
  pub placed : (k : ℕ) → k < length heap → (slice_index heap k < length places) × (slice_index places (slice_index heap k) ≡ k)
  pub back : (v : ℕ) → v < length places → (slice_index places v < length heap) × (slice_index heap (slice_index places v) ≡ v)

-- those at the first so many places wait
abbrev pub waits_of : List ℕ → ℕ → List Bool
waits_of places size = map (λ place. not (nat_le size place)) places

-- the rank of what waits at a place of the heap
abbrev pub rank_at : List ℕ → List ℕ → ℕ → ℕ
rank_at scores heap k = rank scores (slice_index heap k)

-- none ranks above what it stands below
abbrev pub IsOrdered : (ℕ → ℕ) → ℕ → Type 0
IsOrdered at size = (parent child : ℕ) → IsChild parent child → child < size → at child ≤ at parent

-- the same, but that what stands at one place may rank above what it stands below
pub record IsOrderedBut (at : ℕ → ℕ) (size hole : ℕ) : Type 0 where
  pub others : (parent child : ℕ) → IsChild parent child → child < size → child ≢ hole → at child ≤ at parent
  pub across : (parent child : ℕ) → IsChild parent hole → IsChild hole child → child < size → at child ≤ at parent

-- the same, but that what stands at one place may rank below what stands below it
pub record IsOrderedBelow (at : ℕ → ℕ) (size hole : ℕ) : Type 0 where
  pub others : (parent child : ℕ) → IsChild parent child → child < size → parent ≢ hole → at child ≤ at parent
  pub across : (parent child : ℕ) → IsChild parent hole → IsChild hole child → child < size → at child ≤ at parent

-- what holds of the heap between any two calls: the first so many numbers in it wait, and are in order
pub record IsHeap (scores heap places : List ℕ) (size : ℕ) : Type 0 where
  pub all_scored : length scores ≡ length places
  pub within : size ≤ length heap
  pub stands : IsPlaced heap places
  pub ordered : IsOrdered (rank_at scores heap) size
