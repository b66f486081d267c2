-- The luby sequence: 1 1 2 1 1 2 4 1 1 2 1 1 2 4 8 ..
use Rattle.std.specs.Prelude.{◌≡◌, ℕ, zero, suc, ◌-◌, ◌^◌, ◌≤◌, List, [], ◌∷◌, ◌++◌, Some, slice_get}

-- The sequence begins with each of these blocks: the block before it twice, and then the next power of two.
abbrev pub luby_block : ℕ → List ℕ
luby_block zero = []
luby_block (suc k) = luby_block k ++ (luby_block k ++ 2 ^ k ∷ [])

-- this is the sequence's item of that number, counted from 1
unfoldable pub IsLuby : ℕ → ℕ → Type 0
IsLuby number item = (1 ≤ number) × ((block : ℕ) × (slice_get (luby_block block) (number - 1) ≡ Some item))
