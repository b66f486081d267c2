-- Where the clauses of the counter's order stand.
use Rattle.std.proofs.Common.{◌≡◌, ◌∙◌, ℕ, ◌+◌, ◌-◌, ◌<◌, ◌≤◌, List, [], ◌∷◌, ◌++◌, length, get_or, map, ap, arith, length-append, Some}
use Rattle.std.specs.Prelude.{slice_get}
use Rattle.std.specs.List.{range_with_len}
use Rattle.std.proofs.lemmas.List.{get_or-map, length-map, get_or_append_left, get_or-append-add}
use Rattle.std.proofs.lemmas.List.Concat.{flat_map_single}
use Rattle.std.proofs.lemmas.List.FromFn.{length-range_with_len, get_or-range_with_len}
use Rattle.std.proofs.lemmas.Option.{slice_get-get_or}
use Rattle.sat_core.specs.declared.literal.Lit.{Lit}
use Rattle.border_counter.specs.Counter.{at_least_lit, not_at_least_lit, order_at, order_clauses}

-- at least j + 1 of n are at least j
order_clause : ℕ → ℕ → ℕ → List Lit
order_clause first n j = not_at_least_lit first n (j + 1) ∷ at_least_lit first n j ∷ []

orders_are : (first n : ℕ) → order_clauses first n ≡ map (order_clause first n) (range_with_len 1 (n - 1))
unfolding order_clauses order_at order_clause
orders_are first n = flat_map_single (λ j. not_at_least_lit first n (j + 1) ∷ at_least_lit first n j ∷ []) (range_with_len 1 (n - 1))

pub order_count : (first n : ℕ) → length (order_clauses first n) ≡ n - 1
order_count first n = ap length (orders_are first n) ∙ length-map (range_with_len 1 (n - 1)) (order_clause first n) ∙ length-range_with_len 1 (n - 1)

-- the clause of j, behind the clauses of the base and the gates
pub order_stands : (base gates most whole : List (List Lit)) (first n j place : ℕ) → whole ≡ (base ++ (gates ++ order_clauses first n)) ++ most → place ≡ length base + length gates → 1 ≤ j → j < n → slice_get whole (place + j - 1) ≡ Some (not_at_least_lit first n (j + 1) ∷ at_least_lit first n j ∷ [])
unfolding order_clause
order_stands base gates most whole first n j place same at some few =
    let orders : List (List Lit) = order_clauses first n in
    let count : length orders ≡ n - 1 = order_count first n in
    let inner : length (gates ++ orders) ≡ length gates + length orders = length-append gates orders in
    let front : length (base ++ (gates ++ orders)) ≡ length base + length (gates ++ orders) = length-append base (gates ++ orders) in
    let total : length ((base ++ (gates ++ orders)) ++ most) ≡ length (base ++ (gates ++ orders)) + length most = length-append (base ++ (gates ++ orders)) most in
    let k : ℕ = j - 1 in
    let one : place + j - 1 ≡ length base + (length gates + k) = omega arith in
    let within : length base + (length gates + k) < length ((base ++ (gates ++ orders)) ++ most) = omega arith in
    let left : get_or ((base ++ (gates ++ orders)) ++ most) (length base + (length gates + k)) [] ≡ get_or (base ++ (gates ++ orders)) (length base + (length gates + k)) [] = get_or_append_left (base ++ (gates ++ orders)) most [] (length base + (length gates + k)) (omega arith) in
    let behind : get_or (base ++ (gates ++ orders)) (length base + (length gates + k)) [] ≡ get_or (gates ++ orders) (length gates + k) [] = get_or-append-add base (gates ++ orders) (length gates + k) [] in
    let last : get_or (gates ++ orders) (length gates + k) [] ≡ get_or orders k [] = get_or-append-add gates orders k [] in
    let it : get_or orders k [] ≡ order_clause first n (get_or (range_with_len 1 (n - 1)) k 0) = ap (λ xs. get_or xs k []) (orders_are first n) ∙ get_or-map (order_clause first n) (range_with_len 1 (n - 1)) k 0 [] (omega (arith, length-range_with_len 1 (n - 1))) in
    let number : get_or (range_with_len 1 (n - 1)) k 0 ≡ j = get_or-range_with_len 1 (n - 1) k 0 (omega arith) ∙ omega arith in
    ap (λ xs. slice_get xs (place + j - 1)) same ∙ ap (slice_get ((base ++ (gates ++ orders)) ++ most)) one ∙ slice_get-get_or ((base ++ (gates ++ orders)) ++ most) (length base + (length gates + k)) [] within ∙ ap Some (left ∙ behind ∙ last ∙ it ∙ ap (order_clause first n) number)
