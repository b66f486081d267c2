-- The counter: variables that tell whether at least j of the first i inputs are true, and the clauses that make them so.
use Rattle.std.specs.Prelude.{◌≡◌, ℕ, ◌+◌, ◌-◌, ◌*◌, ◌/◌, ◌≤◌, ◌↔◌, Bool, true, false, cond, nat_eq, nat_le, List, [], ◌∷◌, ◌++◌, map, take, count_by, slice_index_or}
use Rattle.std.specs.List.{flat_map, range_with_len}
use Rattle.sat_core.specs.declared.literal.Lit.{Lit}
use Rattle.gate_tables.specs.Gates.{eq_clauses, or2_clauses, and2_clauses, cell_clauses}
use Rattle.gate_tables.specs.Wiring.{is_true_in, no_lit, wired}

-- what contracts see of a counter: the number of its first variable, and how many inputs it counts
pub record CounterParts : Type 0 where
  pub first : ℕ
  pub inputs : ℕ

-- the sum of the numbers from 1 to n: so many variables have the rows 1 to n
unfoldable pub sum_to : ℕ → ℕ
sum_to n = n * (n + 1) / 2

-- The variable that tells whether at least j of the first i inputs are true. Row i has one for each j from 1 to i; the rows
-- stand behind one another, from the number `first` on.
abbrev pub at_least_var : ℕ → ℕ → ℕ → ℕ
at_least_var first i j = first + sum_to (i - 1) + (j - 1)

abbrev pub at_least_lit : ℕ → ℕ → ℕ → Lit
at_least_lit first i j = record { var = record { 0 = at_least_var first i j }; positive = true }

abbrev pub not_at_least_lit : ℕ → ℕ → ℕ → Lit
not_at_least_lit first i j = record { var = record { 0 = at_least_var first i j }; positive = false }

-- the i-th input, counted from 1
abbrev pub input_at : List Lit → ℕ → Lit
input_at inputs i = slice_index_or inputs (i - 1) no_lit

-- At least j of the first i inputs are true exactly where at least j of the first i - 1 are, or the i-th is and at least j - 1
-- of the first i - 1 are. At least 0 of them always are, and never more than there are: so the gates at the edges are shorter.
unfoldable pub gate_at : List Lit → ℕ → ℕ → ℕ → List (List Lit)
gate_at inputs first i j =
    let s = at_least_lit first i j in
    let p = at_least_lit first (i - 1) j in
    let x = input_at inputs i in
    let q = at_least_lit first (i - 1) (j - 1) in
    cond (nat_eq i 1) (wired (x ∷ s ∷ []) eq_clauses)
    (cond (nat_eq j 1) (wired (p ∷ x ∷ s ∷ []) or2_clauses)
    (cond (nat_eq i j) (wired (x ∷ q ∷ s ∷ []) and2_clauses)
    (wired (p ∷ x ∷ q ∷ s ∷ []) cell_clauses)))

-- the gates of row i, for j from 1 to i
unfoldable pub row_clauses : List Lit → ℕ → ℕ → List (List Lit)
row_clauses inputs first i = flat_map (gate_at inputs first i) (range_with_len 1 i)

-- the gates of the rows 1 to n
unfoldable pub gates_of : List Lit → ℕ → ℕ → List (List Lit)
gates_of inputs first n = flat_map (row_clauses inputs first) (range_with_len 1 n)

-- at least j + 1 of n are at least j
unfoldable pub order_at : ℕ → ℕ → ℕ → List (List Lit)
order_at first n j = (not_at_least_lit first n (j + 1) ∷ at_least_lit first n j ∷ []) ∷ []

-- for j from 1 to n - 1
unfoldable pub order_clauses : ℕ → ℕ → List (List Lit)
order_clauses first n = flat_map (order_at first n) (range_with_len 1 (n - 1))

-- all clauses of the counter of n inputs: the gates, then the order
abbrev pub counter_clauses : List Lit → ℕ → ℕ → List (List Lit)
counter_clauses inputs first n = gates_of inputs first n ++ order_clauses first n

-- how many of the first i inputs are true
abbrev pub true_among : List Bool → List Lit → ℕ → ℕ
true_among values inputs i = count_by (is_true_in values) (take i inputs)

-- each variable of the rows 1 to n tells what it is to tell
abbrev pub Counts : List Bool → List Lit → ℕ → ℕ → Type 0
Counts values inputs first n = (i j : ℕ) → 1 ≤ j → j ≤ i → i ≤ n → (is_true_in values (at_least_lit first i j) ≡ true) ↔ (j ≤ true_among values inputs i)

-- the values that the variables are to have, row by row, by the values of the inputs
abbrev pub counted_row : List Bool → List Lit → ℕ → List Bool
counted_row values inputs i = map (λ j. nat_le j (true_among values inputs i)) (range_with_len 1 i)

abbrev pub counted : List Bool → List Lit → ℕ → List Bool
counted values inputs n = flat_map (counted_row values inputs) (range_with_len 1 n)
