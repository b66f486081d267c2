-- The numbers that texts spell.
use Rattle.std.specs.Prelude.{ℕ, ◌<◌, ◌^◌, ◌++◌, ◌∷◌, [], List, decimal}

-- a number of at most nine digits
abbrev pub IsShort : ℕ → Type 0
IsShort n = n < 10 ^ 9

-- a number's digits, and the byte behind them
abbrev pub ended : ℕ → ℕ → List ℕ
ended end n = decimal n ++ end ∷ []
