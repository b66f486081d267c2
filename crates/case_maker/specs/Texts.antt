-- Texts with a number in them.
use Rattle.std.specs.Prelude.{ℕ, List, [], ◌∷◌, cond, nat_eq, decimal}
use Rattle.std.specs.List.{flat_map}

-- the number, where the text has the sign `#`
unfoldable pub filled_at : ℕ → ℕ → List ℕ
filled_at number byte = cond (nat_eq byte 35) (decimal number) (byte ∷ [])

-- the text with the number for each `#`
unfoldable pub filled : List ℕ → ℕ → List ℕ
filled text number = flat_map (filled_at number) text
