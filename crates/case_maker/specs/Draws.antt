-- The numbers that are drawn from a seed.
use Rattle.std.specs.Prelude.{ℕ, zero, suc, ◌+◌, ◌*◌, ◌%◌}

-- what comes after a number
abbrev pub next_state : ℕ → ℕ
next_state x = (75 * x + 74) % 65537

-- the number after so many draws
unfoldable pub state : ℕ → ℕ → ℕ
state seed zero = seed % 65537
state seed (suc n) = next_state (state seed n)

-- the draw of that place, counted from 0: a number below the bound
abbrev pub draw : ℕ → ℕ → ℕ → ℕ
draw seed place bound = state seed (place + 1) % bound
