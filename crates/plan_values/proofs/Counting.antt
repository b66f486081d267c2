-- The counter's values satisfy the counter's clauses, and a bound that the layout keeps.
use Rattle.std.proofs.Common.{◌≡◌, ℕ, zero, suc, ◌+◌, ◌-◌, ◌<◌, ◌≤◌, ◌^◌, Bool, true, false, List, [], ◌∷◌, ◌++◌, length, map, filter, refl, sym, ap, ◌∙◌, subst, ⊎_elim, arith, length-append}
use Rattle.std.specs.Prelude.{nat_le, count_by, ◌↔◌}
use Rattle.std.specs.List.{flat_map, range_with_len}
use Rattle.std.proofs.Math.Bool.{beq}
use Rattle.std.proofs.lemmas.Bool.{cases_Bool, cases_lt, lt-ltb, le-ltb, false_from_ne_true}
use Rattle.std.proofs.lemmas.List.{length-map}
use Rattle.std.proofs.lemmas.List.FromFn.{length-map-range_with_len}
use Rattle.std.proofs.lemmas.List.Sums.{length-filter}
use Rattle.std.proofs.lemmas.List.Elements.{All-nil}
use Rattle.sat_core.specs.declared.literal.Lit.{Lit}
use Rattle.sat_core.specs.Clauses.{Satisfies, SatisfiesAll}
use Rattle.gate_tables.specs.Wiring.{is_true_in}
use Rattle.border_counter.specs.Counter.{sum_to, at_least_var, at_least_lit, counter_clauses, true_among, counted_row, counted}
use Rattle.border_counter.specs.Fitting.{FitsCounter}
use Rattle.border_counter.proofs.CountingLaws.{counter_tells}
use Rattle.border_counter.proofs.ExtendingLaws.{extends}
use Rattle.clause_list.specs.Ranges.{below}
use Rattle.clause_list.specs.Numbers.{is, is_not, border}
use Rattle.clause_list.specs.BorderClauses.{border_lits, most_clauses}
use Rattle.clause_list.specs.Values.{value}
use Rattle.clause_list.proofs.BorderLaws.{length-border_lits, borders_over, sum_more}
use Rattle.plan_laws.specs.Telling.{is_standing, told_layout}
use Rattle.plan_values.specs.Meanings.{Is}
use Rattle.plan_values.proofs.Making.{here, make_false, make_one}

-- rows of 1, 2, .. values
rows_size : (values : List Bool) (inputs : List Lit) (b n : ℕ) → length (flat_map (counted_row values inputs) (range_with_len (suc b) n)) + sum_to b ≡ sum_to (b + n)
rows_size values inputs b zero =
    let none : length (flat_map (counted_row values inputs) (range_with_len (suc b) 0)) ≡ 0 = refl in
    let number : b ≡ b + 0 = omega arith in
    let same : sum_to b ≡ sum_to (b + 0) = ap sum_to number in
    omega (arith, none, same)
rows_size values inputs b (suc n) =
    let row : List Bool = counted_row values inputs (suc b) in
    let this : length row ≡ suc b = length-map-range_with_len (λ j. nat_le j (true_among values inputs (suc b))) 1 (suc b) in
    let next : suc b + 1 ≡ suc (suc b) = omega arith in
    let rest : List Bool = flat_map (counted_row values inputs) (range_with_len (suc b + 1) n) in
    let all : length (flat_map (counted_row values inputs) (range_with_len (suc b) (suc n))) ≡ length row + length rest = length-append row rest in
    let others : length rest + sum_to (suc b) ≡ sum_to (suc b + n) = ap (λ (k : ℕ). length (flat_map (counted_row values inputs) (range_with_len k n)) + sum_to (suc b)) next ∙ rows_size values inputs (suc b) n in
    let number : suc b + n ≡ b + suc n = omega arith in
    let end : sum_to (suc b + n) ≡ sum_to (b + suc n) = ap sum_to number in
    let more : sum_to (suc b) ≡ sum_to b + suc b = sum_more b in
    omega arith

pub length-counted : (values : List Bool) (inputs : List Lit) (n : ℕ) → length (counted values inputs n) ≡ sum_to n
unfolding sum_to
length-counted values inputs n =
    let all : length (flat_map (counted_row values inputs) (range_with_len 1 n)) + sum_to 0 ≡ sum_to (0 + n) = rows_size values inputs 0 n in
    let number : 0 + n ≡ n = omega arith in
    let same : sum_to (0 + n) ≡ sum_to n = ap sum_to number in
    omega (arith, all, same)

is_itself : (b : Bool) → beq b true ≡ b
is_itself true = refl
is_itself false = refl

-- as many inputs are true as borders stand
same_count : (values : List Bool) (cs : List ℕ) → length (filter (is_true_in values) (map (λ c. is (border c)) cs)) ≡ length (filter (is_standing values) cs)
unfolding is_standing
same_count values [] = refl
same_count values (c ∷ cs) =
    let others : length (filter (is_true_in values) (map (λ c. is (border c)) cs)) ≡ length (filter (is_standing values) cs) = same_count values cs in
    ⊎_elim
    (λ stands. let here_it_is : value values (border c) ≡ true = stands in rw here_it_is (ap suc others))
    (λ free. let not_here : value values (border c) ≡ false = free in rw not_here others)
    (cases_Bool (value values (border c)))

true_inputs : (values : List Bool) (n : ℕ) → count_by (is_true_in values) (border_lits n) ≡ length (told_layout values n)
true_inputs values n = sym (length-filter (is_true_in values) (border_lits n)) ∙ (same_count values (below n) ∙ sym (length-map (filter (is_standing values) (below n)) (λ c. record { 0 = c })))

-- a bound that the layout keeps
pub most_holds : (values : List Bool) (n first most : ℕ) → n < first → FitsCounter (length values) (border_lits n) first → SatisfiesAll values (counter_clauses (border_lits n) first (length (border_lits n))) → length (told_layout values n) ≤ most → SatisfiesAll values (most_clauses first n most)
most_holds values n first most behind fits counter few = ⊎_elim
    (λ less.
    let size : length (border_lits n) ≡ n = length-border_lits n in
    let number : ℕ = at_least_var first n (most + 1) in
    let tells : (is_true_in values (at_least_lit first (length (border_lits n)) (most + 1)) ≡ true) ↔ (most + 1 ≤ count_by (is_true_in values) (border_lits n)) = counter_tells values (border_lits n) first fits counter (most + 1) (omega arith) (omega arith) in
    let off : value values number ≡ false = false_from_ne_true (value values number) (λ on.
    let many : most + 1 ≤ count_by (is_true_in values) (border_lits n) = tells.0 (subst (λ m. is_true_in values (at_least_lit first m (most + 1)) ≡ true) (sym size) (is_itself (value values number) ∙ on)) in
    let count : count_by (is_true_in values) (border_lits n) ≡ length (told_layout values n) = true_inputs values n in
    omega arith) in
    let end : first + sum_to (length (border_lits n)) ≤ length values + 1 = fits.within in
    let same : sum_to (length (border_lits n)) ≡ sum_to n = ap sum_to size in
    let mean : Is values number false = record { is = off; within = last_within first n most (length values) behind less (omega (arith, end, same)) } in
    rw (lt-ltb most n less) (make_one values (is_not number ∷ []) (here values (is_not number) [] (make_false values number false mean refl))))
    (λ many. rw (le-ltb most n (omega arith)) (All-nil (Satisfies values)))
    (cases_lt most n)
  where
    last_within : (first n most size : ℕ) → n < first → most < n → first + sum_to n ≤ size + 1 → at_least_var first n (most + 1) - 1 < size
    last_within first zero most size behind less end = absurd (omega arith)
    last_within first (suc m) most size behind less end =
        let before : suc m - 1 ≡ m = omega arith in
        let place : sum_to (suc m - 1) ≡ sum_to m = ap sum_to before in
        omega (arith, sum_more m, place)

-- the counter's values stand behind those of the rest
pub counter_holds : (before : List Bool) (n first : ℕ) → length before ≡ first - 1 → n < first → first + sum_to n ≤ 2 ^ 32 → FitsCounter (length (before ++ counted before (border_lits n) (length (border_lits n)) ++ [])) (border_lits n) first × SatisfiesAll (before ++ counted before (border_lits n) (length (border_lits n)) ++ []) (counter_clauses (border_lits n) first (length (border_lits n))) × (length (before ++ counted before (border_lits n) (length (border_lits n)) ++ []) ≡ first - 1 + sum_to n)
counter_holds before n first size behind few =
    let inputs : List Lit = border_lits n in
    let these : List Bool = counted before inputs (length inputs) in
    let same : sum_to (length inputs) ≡ sum_to n = ap sum_to (length-border_lits n) in
    let total : length (before ++ these ++ []) ≡ first - 1 + sum_to n = omega (arith, length-append (before ++ these) [], length-append before these, length-counted before inputs (length inputs), same, size) in
    let fits : FitsCounter (length (before ++ these ++ [])) inputs first = record { inputs_before = borders_over (first - 1) n (omega arith); within = omega (arith, same, total); numbers = omega (arith, total) } in
    (fits, extends before [] inputs first size fits, total)
