-- Rows of truth tables: row r stands for the inputs whose i-th value is binary digit i of r.
use Rattle.std.specs.Prelude.{ℕ, zero, suc, ◌+◌, ◌*◌, ◌/◌, ◌%◌, Bool, cond, nat_eq, List, [], ◌∷◌}

-- so many inputs of a row, by its lowest binary digits
abbrev pub inputs_of : ℕ → ℕ → List Bool
inputs_of zero row = []
inputs_of (suc inputs) row = nat_eq (row % 2) 1 ∷ inputs_of inputs (row / 2)

-- the row of inputs, the number with these binary digits, the lowest first
abbrev pub row_of : List Bool → ℕ
row_of [] = 0
row_of (input ∷ inputs) = cond input 1 0 + 2 * row_of inputs
