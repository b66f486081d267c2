-- Ranges of numbers, and lists of one entry for each.
use Rattle.std.specs.Prelude.{ℕ, ◌+◌, ◌-◌, List, [], ◌∷◌}
use Rattle.std.specs.List.{range_with_len, flat_map}

-- the numbers from `from` on, below `end`
unfoldable pub from_below : ℕ → ℕ → List ℕ
from_below from end = range_with_len from (end - from)

-- the numbers below n
abbrev pub below : ℕ → List ℕ
below n = from_below 0 n

-- the numbers from `from` to `to`, both among them
abbrev pub from_to : ℕ → ℕ → List ℕ
from_to from to = from_below from (to + 1)

-- one for each
abbrev pub one_each : {X A : Type 0} → (X → A) → List X → List A
one_each f xs = flat_map (λ x. f x ∷ []) xs
