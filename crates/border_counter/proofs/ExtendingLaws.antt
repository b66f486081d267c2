-- Every valuation of the inputs extends to one that satisfies the counter's clauses.
use Rattle.std.proofs.Common.{◌≡◌, ℕ, zero, suc, ◌+◌, ◌-◌, ◌≤◌, Bool, true, false, cond, List, [], ◌∷◌, ◌++◌, length, take, get_or, refl, sym, ap, ◌∙◌, subst, arith, length-append, length-take, append_assoc}
use Rattle.std.specs.Prelude.{nat_le, All, count_by}
use Rattle.std.specs.List.{flat_map, range_with_len}
use Rattle.std.proofs.Math.Bool.{beq}
use Rattle.std.proofs.lemmas.Bool.{leb-true, le-leb}
use Rattle.std.proofs.lemmas.List.{get_or_append_left, get_or-append-add, get_or-take}
use Rattle.std.proofs.lemmas.List.FromFn.{length-map-range_with_len, get_or-map-range_with_len}
use Rattle.std.proofs.lemmas.List.Sums.{sum_by-cons}
use Rattle.std.proofs.lemmas.List.Elements.{All-head, All-tail}
use Rattle.sat_core.specs.declared.literal.Lit.{Lit}
use Rattle.sat_core.specs.Clauses.{IsOver, SatisfiesAll}
use Rattle.gate_tables.specs.Wiring.{is_true_in}
use Rattle.border_counter.specs.Counter.{sum_to, at_least_var, counter_clauses, true_among, counted_row, counted}
use Rattle.border_counter.specs.Fitting.{FitsCounter}
use Rattle.border_counter.proofs.SumLemmas.{sum_to-suc, sum_to-zero, sum_to-pred, sum_to-le}
use Rattle.border_counter.proofs.RangeLemmas.{more, split_at}
use Rattle.border_counter.proofs.CountingLaws.{counter_law}

length-counted : (values : List Bool) (inputs : List Lit) (n : ℕ) → length (counted values inputs n) ≡ sum_to n
length-counted values inputs zero = sym sum_to-zero
length-counted values inputs (suc n) =
    let row : counted values inputs (n + 1) ≡ counted values inputs n ++ counted_row values inputs (suc n) = more (counted_row values inputs) 1 n (suc n) (omega arith) in
    let size : length (counted_row values inputs (suc n)) ≡ suc n = length-map-range_with_len (λ j. nat_le j (true_among values inputs (suc n))) 1 (suc n) in
    let front = length-counted values inputs n in
    let number : n + 1 ≡ suc n = omega arith in
    let all : length (counted values inputs (n + 1)) ≡ sum_to (suc n) = omega (arith, ap length row, length-append (counted values inputs n) (counted_row values inputs (suc n)), size, front, sum_to-suc n) in
    ap (λ m. length (counted values inputs m)) (sym number) ∙ all

-- the value of a row and a place
counted_at : (values : List Bool) (inputs : List Lit) (n i j : ℕ) → 1 ≤ j → j ≤ i → i ≤ n → get_or (counted values inputs n) (sum_to (i - 1) + (j - 1)) false ≡ nat_le j (true_among values inputs i)
counted_at values inputs n i j low high within =
    let row = counted_row values inputs in
    let rest : List Bool = flat_map row (range_with_len (i + 1) (n - (i - 1 + 1))) in
    let parts : counted values inputs n ≡ counted values inputs (i - 1) ++ (row i ++ rest) = split_at row 1 n (i - 1) i (omega arith) (omega arith) in
    let size : length (row i) ≡ i = length-map-range_with_len (λ k. nat_le k (true_among values inputs i)) 1 i in
    let before : length (counted values inputs (i - 1)) ≡ sum_to (i - 1) = length-counted values inputs (i - 1) in
    ap (λ bs. get_or bs (sum_to (i - 1) + (j - 1)) false) parts
    ∙ (ap (λ k. get_or (counted values inputs (i - 1) ++ (row i ++ rest)) (k + (j - 1)) false) (sym before)
    ∙ (get_or-append-add (counted values inputs (i - 1)) (row i ++ rest) (j - 1) false
    ∙ (get_or_append_left (row i) rest false (j - 1) (omega arith)
    ∙ get_or-map-range_with_len (λ k. nat_le k (true_among values inputs i)) 1 i (j - 1) j false (omega arith) (omega arith))))

true_before : (before rest : List Bool) (lit : Lit) → IsOver (length before) lit → is_true_in (before ++ rest) lit ≡ is_true_in before lit
true_before before rest lit over = ap (λ b. beq b lit.positive) (get_or_append_left before rest false (lit.var.0 - 1) (omega arith))

count_before : (before rest : List Bool) (lits : List Lit) → All (IsOver (length before)) lits → count_by (is_true_in (before ++ rest)) lits ≡ count_by (is_true_in before) lits
count_before before rest [] over = refl
count_before before rest (lit ∷ lits) over =
    let one : Bool → ℕ = λ b. cond b 1 0 in
    let here : one (is_true_in (before ++ rest) lit) ≡ one (is_true_in before lit) = ap one (true_before before rest lit (All-head (IsOver (length before)) lit lits over)) in
    let later = count_before before rest lits (All-tail (IsOver (length before)) lit lits over) in
    omega (arith, here, later, sum_by-cons (λ l. cond (is_true_in (before ++ rest) l) 1 0) lit lits, sum_by-cons (λ l. cond (is_true_in before l) 1 0) lit lits)

all_taken : (P : Lit → Type 0) (lits : List Lit) (n : ℕ) → All P lits → All P (take n lits)
all_taken P lits n all = λ k d within. subst P (sym (get_or-take n lits k d (omega (arith, length-take n lits)))) (all k d (omega (arith, length-take n lits)))

beq-back : (b : Bool) → beq b true ≡ true → b ≡ true
beq-back true h = refl
beq-back false h = h

beq-forth : (b : Bool) → b ≡ true → beq b true ≡ true
beq-forth true h = refl
beq-forth false h = h

pub extends : (before more_values : List Bool) (inputs : List Lit) (first : ℕ) → length before ≡ first - 1 → FitsCounter (length (before ++ counted before inputs (length inputs) ++ more_values)) inputs first → SatisfiesAll (before ++ counted before inputs (length inputs) ++ more_values) (counter_clauses inputs first (length inputs))
extends before more_values inputs first begins fits =
    let middle : List Bool = counted before inputs (length inputs) in
    let regroup : before ++ (middle ++ more_values) ≡ before ++ middle ++ more_values = sym (append_assoc before middle more_values) in
    let over : All (IsOver (length before)) inputs = subst (λ n. All (IsOver n) inputs) (sym begins) fits.inputs_before in
    (counter_law (before ++ middle ++ more_values) inputs first fits).1 (λ i j low high within.
    let row : sum_to i ≡ sum_to (i - 1) + i = sum_to-pred i (omega arith) in
    let most : sum_to i ≤ sum_to (length inputs) = sum_to-le i (length inputs) within in
    let some = fits.inputs_before 0 (record { var = record { 0 = 0 }; positive = false }) (omega arith) in
    let size = length-counted before inputs (length inputs) in
    let place : at_least_var first i j - 1 ≡ length before + (sum_to (i - 1) + (j - 1)) = omega (arith, some.0, some.1) in
    let value : get_or (before ++ middle ++ more_values) (at_least_var first i j - 1) false ≡ nat_le j (true_among before inputs i) =
    ap (λ bs. get_or bs (at_least_var first i j - 1) false) (sym regroup)
    ∙ (ap (λ k. get_or (before ++ (middle ++ more_values)) k false) place
    ∙ (get_or-append-add before (middle ++ more_values) (sum_to (i - 1) + (j - 1)) false
    ∙ (get_or_append_left middle more_values false (sum_to (i - 1) + (j - 1)) (omega arith)
    ∙ counted_at before inputs (length inputs) i j low high within))) in
    let counts : true_among (before ++ middle ++ more_values) inputs i ≡ true_among before inputs i = ap (λ bs. count_by (is_true_in bs) (take i inputs)) (sym regroup) ∙ count_before before (middle ++ more_values) (take i inputs) (all_taken (IsOver (length before)) inputs i over) in (
      λ h. let l : j ≤ true_among before inputs i = leb-true j (true_among before inputs i) (sym value ∙ beq-back _ h) in omega arith,
      λ h. ap (λ b. beq b true) value ∙ beq-forth _ (le-leb j (true_among before inputs i) (omega arith)),
    ))
