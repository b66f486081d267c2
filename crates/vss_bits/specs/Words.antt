-- How truths stand in words of 64 bits.
use Rattle.std.specs.Prelude.{◌≡◌, ◌≢◌, ◌≤◌, ◌+◌, ◌/◌, ◌%◌, ℕ, Bool, false, List, length, map, nat_eq, slice_index_or}
use Rattle.std.specs.Int.{bit_at}
use Rattle.std.specs.List.{range_with_len}

-- whether the bit of that place is set: in each word from the lowest bit on
unfoldable pub is_set : List ℕ → ℕ → Bool
is_set words place = nat_eq (bit_at (slice_index_or words (place / 64) 0) (place % 64)) 1

-- the first so many bits
abbrev pub truths : List ℕ → ℕ → List Bool
truths words count = map (is_set words) (range_with_len 0 count)

-- there are words for so many bits and no more, and no bit behind these is set
pub record AreInWords (words : List ℕ) (count : ℕ) : Type 0 where
  pub room : length words ≡ (count + 63) / 64
  pub clear : (place : ℕ) → count ≤ place → is_set words place ≡ false

-- the bit of one place is that truth now, and the others are as before
pub record SetsOnly (old : List ℕ) (place : ℕ) (truth : Bool) (new : List ℕ) : Type 0 where
  pub words : length new ≡ length old
  pub there : is_set new place ≡ truth
  pub elsewhere : (other : ℕ) → other ≢ place → is_set new other ≡ is_set old other
