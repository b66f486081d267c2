-- How many clauses and literals the counter of so many inputs has.
use Rattle.std.specs.Prelude.{ℕ, zero, suc, ◌+◌, ◌-◌, ◌*◌, ◌/◌}

-- two for each input and each input, and one for the order of each two neighbours
unfoldable pub counter_clause_count : ℕ → ℕ
counter_clause_count n = 2 * (n * n) + (n - 1)

-- with k inputs and one more: the half of 11 * (k * k) + 17 * k + 8, and two for the order of each two neighbours
unfoldable pub counter_lit_count : ℕ → ℕ
counter_lit_count zero = 0
counter_lit_count (suc k) = (11 * (k * k) + 17 * k + 8) / 2 + 2 * k
