-- Activities: numbers in two halves that never lose their order, and which of two variables comes first by them.
use Rattle.std.specs.Prelude.{ℕ, ◌+◌, ◌-◌, ◌*◌, ◌/◌, ◌%◌, ◌^◌, cond, nat_le, List, slice_index}

-- A score has its mantissa in the low 32 bits and its exponent above them: it stands for mantissa * 2 ^ exponent, and scores whose
-- mantissas have their top bit set compare as what they stand for. So much of the lower score counts beside the higher one.
abbrev pub lowered : ℕ → ℕ → ℕ
lowered low apart = cond (nat_le 32 apart) 0 ((low % 2 ^ 32) / 2 ^ apart)

-- the score with this mantissa, which may have a bit too many; the greatest score stays
abbrev pub carried : ℕ → ℕ → ℕ
carried exponent mantissa = cond (nat_le (2 ^ 32) mantissa) (cond (nat_le (2 ^ 32 - 1) exponent) (2 ^ 64 - 1) ((exponent + 1) * 2 ^ 32 + mantissa / 2)) (exponent * 2 ^ 32 + mantissa)

abbrev pub sum_above : ℕ → ℕ → ℕ
sum_above high low = carried (high / 2 ^ 32) (high % 2 ^ 32 + lowered low (high / 2 ^ 32 - low / 2 ^ 32))

-- the sum of two scores
abbrev pub score_sum : ℕ → ℕ → ℕ
score_sum one other = cond (nat_le other one) (sum_above one other) (sum_above other one)

-- an eighth more
abbrev pub eighth_more : ℕ → ℕ
eighth_more score = score_sum score (score - 3 * 2 ^ 32)

-- By this number variables are compared, each by its place, counted from 0: the greater score first, among equal ones the lower
-- place.
abbrev pub rank : List ℕ → ℕ → ℕ
rank scores place = slice_index scores place * 2 ^ 32 + (2 ^ 32 - 1 - place)
