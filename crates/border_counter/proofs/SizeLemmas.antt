-- How many clauses and literals a counter has.
use Rattle.std.proofs.Common.{◌≡◌, ℕ, zero, suc, ◌+◌, ◌-◌, ◌*◌, ◌/◌, ◌<◌, ◌≤◌, List, [], ◌++◌, length, refl, sym, ap, ◌∙◌, arith, length-append}
use Rattle.std.specs.Prelude.{sum_by}
use Rattle.std.specs.List.{flat_map, range_with_len}
use Rattle.std.proofs.Math.Nat.{mul-le-mul_left}
use Rattle.std.proofs.lemmas.List.Sums.{sum_by-append}
use Rattle.sat_core.specs.declared.literal.Lit.{Lit}
use Rattle.border_counter.specs.Counter.{gate_at, row_clauses, gates_of, order_at, order_clauses, counter_clauses}
use Rattle.border_counter.specs.Sizes.{counter_clause_count, counter_lit_count}
use Rattle.border_counter.proofs.RangeLemmas.{more}
use Rattle.border_counter.proofs.GateLemmas.{gate_of_first, gate_of_lowest, gate_of_highest, gate_between}

-- a size of a list of clauses: one that adds up
pub record AddsUp (size : List (List Lit) → ℕ) : Type 0 where
  pub none : size [] ≡ 0
  pub both : (one other : List (List Lit)) → size (one ++ other) ≡ size one + size other

pub clauses_add_up : AddsUp length
clauses_add_up = record { none = refl; both = length-append }

pub lits_add_up : AddsUp (sum_by length)
lits_add_up = record { none = refl; both = sum_by-append length }

-- the sizes of the gates, by their place in a row
pub record GateSizes (size : List (List Lit) → ℕ) (inputs : List Lit) (first single edge inner : ℕ) : Type 0 where
  pub first_is : size (gate_at inputs first 1 1) ≡ single
  pub lowest_is : (i : ℕ) → 2 ≤ i → size (gate_at inputs first i 1) ≡ edge
  pub highest_is : (i : ℕ) → 2 ≤ i → size (gate_at inputs first i i) ≡ edge
  pub inner_is : (i j : ℕ) → 2 ≤ j → j < i → size (gate_at inputs first i j) ≡ inner

pub clause_sizes : (inputs : List Lit) (first : ℕ) → GateSizes length inputs first 2 3 4
clause_sizes inputs first = record {
  first_is = ap length (gate_of_first inputs first 1 1 refl);
  lowest_is = λ i two. ap length (gate_of_lowest inputs first i 1 (λ e. omega arith) refl);
  highest_is = λ i two. ap length (gate_of_highest inputs first i i (λ e. omega arith) (λ e. omega arith) refl);
  inner_is = λ i j two below. ap length (gate_between inputs first i j (λ e. omega arith) (λ e. omega arith) (λ e. omega arith));
}

pub lit_sizes : (inputs : List Lit) (first : ℕ) → GateSizes (sum_by length) inputs first 4 7 11
lit_sizes inputs first = record {
  first_is = ap (sum_by length) (gate_of_first inputs first 1 1 refl);
  lowest_is = λ i two. ap (sum_by length) (gate_of_lowest inputs first i 1 (λ e. omega arith) refl);
  highest_is = λ i two. ap (sum_by length) (gate_of_highest inputs first i i (λ e. omega arith) (λ e. omega arith) refl);
  inner_is = λ i j two below. ap (sum_by length) (gate_between inputs first i j (λ e. omega arith) (λ e. omega arith) (λ e. omega arith));
}

step : (size : List (List Lit) → ℕ) (f : ℕ → List (List Lit)) (k : ℕ) → AddsUp size → size (flat_map f (range_with_len 1 (suc k))) ≡ size (flat_map f (range_with_len 1 k)) + size (f (suc k))
step size f k adds =
    let number : k + 1 ≡ suc k = omega arith in
    ap (λ m. size (flat_map f (range_with_len 1 m))) (sym number) ∙ (ap size (more f 1 k (suc k) (omega arith)) ∙ adds.both (flat_map f (range_with_len 1 k)) (f (suc k)))

-- the front of a row: its lowest gate and so many inner ones
front_size : (size : List (List Lit) → ℕ) (inputs : List Lit) (first single edge inner i k : ℕ) → AddsUp size → GateSizes size inputs first single edge inner → suc k < i → size (flat_map (gate_at inputs first i) (range_with_len 1 (suc k))) ≡ edge + k * inner
front_size size inputs first single edge inner i zero adds gates within =
    let one = step size (gate_at inputs first i) 0 adds in
    omega (arith, one, adds.none, gates.lowest_is i (omega arith))
front_size size inputs first single edge inner i (suc k) adds gates within =
    let one = step size (gate_at inputs first i) (suc k) adds in
    let front = front_size size inputs first single edge inner i k adds gates (omega arith) in
    omega (arith, one, front, gates.inner_is i (suc (suc k)) (omega arith) within)

row_size : (size : List (List Lit) → ℕ) (inputs : List Lit) (first single edge inner k : ℕ) → AddsUp size → GateSizes size inputs first single edge inner → size (row_clauses inputs first (suc (suc k))) ≡ edge + k * inner + edge
unfolding row_clauses
row_size size inputs first single edge inner k adds gates =
    let one = step size (gate_at inputs first (suc (suc k))) (suc k) adds in
    omega (arith, one, front_size size inputs first single edge inner (suc (suc k)) k adds gates (omega arith), gates.highest_is (suc (suc k)) (omega arith))

first_row_size : (size : List (List Lit) → ℕ) (inputs : List Lit) (first single edge inner : ℕ) → AddsUp size → GateSizes size inputs first single edge inner → size (row_clauses inputs first 1) ≡ single
unfolding row_clauses
first_row_size size inputs first single edge inner adds gates = omega (arith, step size (gate_at inputs first 1) 0 adds, adds.none, gates.first_is)

-- the rows 1 to n + 1
abbrev rows_size : ℕ → ℕ → ℕ → ℕ → ℕ
rows_size single edge inner zero = single
rows_size single edge inner (suc k) = rows_size single edge inner k + (edge + k * inner + edge)

gates_size : (size : List (List Lit) → ℕ) (inputs : List Lit) (first single edge inner n : ℕ) → AddsUp size → GateSizes size inputs first single edge inner → size (gates_of inputs first (suc n)) ≡ rows_size single edge inner n
unfolding gates_of
gates_size size inputs first single edge inner zero adds gates = omega (arith, step size (row_clauses inputs first) 0 adds, adds.none, first_row_size size inputs first single edge inner adds gates)
gates_size size inputs first single edge inner (suc n) adds gates = omega (arith, step size (row_clauses inputs first) (suc n) adds, gates_size size inputs first single edge inner n adds gates, row_size size inputs first single edge inner n adds gates)

order_sizes : (size : List (List Lit) → ℕ) (first n unit k : ℕ) → AddsUp size → ((j : ℕ) → size (order_at first n j) ≡ unit) → size (flat_map (order_at first n) (range_with_len 1 k)) ≡ k * unit
order_sizes size first n unit zero adds each = omega (arith, adds.none)
order_sizes size first n unit (suc k) adds each = omega (arith, step size (order_at first n) k adds, each (suc k), order_sizes size first n unit k adds each)

order_lits : (first n j : ℕ) → sum_by length (order_at first n j) ≡ 2
unfolding order_at
order_lits first n j = refl

order_clauses_in : (first n j : ℕ) → length (order_at first n j) ≡ 1
unfolding order_at
order_clauses_in first n j = refl

clauses_closed : (n : ℕ) → rows_size 2 3 4 n ≡ 2 * suc n * suc n
clauses_closed zero = refl
clauses_closed (suc n) = omega (arith, clauses_closed n)

lits_closed : (n : ℕ) → 2 * rows_size 4 7 11 n ≡ 11 * n * n + 17 * n + 8
lits_closed zero = refl
lits_closed (suc n) = omega (arith, lits_closed n)

pub clause_count : (inputs : List Lit) (first n : ℕ) → length (counter_clauses inputs first n) ≡ counter_clause_count n
unfolding counter_clause_count gates_of order_clauses
clause_count inputs first zero = refl
clause_count inputs first (suc n) = omega (arith, length-append (gates_of inputs first (suc n)) (order_clauses first (suc n)), gates_size length inputs first 2 3 4 n clauses_add_up (clause_sizes inputs first), order_sizes length first (suc n) 1 (suc n - 1) clauses_add_up (order_clauses_in first (suc n)), clauses_closed n)

pub lit_count : (inputs : List Lit) (first n : ℕ) → sum_by length (counter_clauses inputs first n) ≡ counter_lit_count n
unfolding counter_lit_count gates_of order_clauses
lit_count inputs first zero = refl
lit_count inputs first (suc n) = omega (arith, sum_by-append length (gates_of inputs first (suc n)) (order_clauses first (suc n)), gates_size (sum_by length) inputs first 4 7 11 n lits_add_up (lit_sizes inputs first), order_sizes (sum_by length) first (suc n) 2 (suc n - 1) lits_add_up (order_lits first (suc n)), lits_closed n)

-- the closed forms, by a number of inputs that is named twice
pub clauses_at : (n count before : ℕ) → count ≡ n → before ≡ count - 1 → counter_clause_count n ≡ 2 * (count * count) + before
unfolding counter_clause_count
clauses_at n count before same one = rw (one, same) refl

pub lits_at : (n count before : ℕ) → ¬ (n ≡ 0) → count ≡ n → before ≡ count - 1 → counter_lit_count n ≡ (11 * (before * before) + 17 * before + 8) / 2 + 2 * before
unfolding counter_lit_count
lits_at zero count before some same one = absurd (some refl)
lits_at (suc k) count before some same one = let here : before ≡ k = omega arith in rw here refl

pub square_le : (n most : ℕ) → n ≤ most → n * n ≤ most * most
square_le n most within = let one = mul-le-mul_left n within in let two = mul-le-mul_left most within in omega (arith, one, two)
