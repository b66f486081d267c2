-- The counter's clauses are satisfied exactly where its variables tell what they are to tell.
use Rattle.std.proofs.Common.{◌≡◌, ◌≢◌, ℕ, zero, suc, ◌+◌, ◌-◌, ◌<◌, ◌≤◌, Bool, true, false, cond, ◌&&◌, ◌||◌, List, [], ◌∷◌, ◌++◌, length, take, get_or, refl, sym, ap, ◌∙◌, subst, inl, inr, arith, length-take}
use Rattle.std.specs.Prelude.{◌↔◌, nat_eq, All, count_by}
use Rattle.std.specs.List.{flat_map, range_with_len}
use Rattle.std.proofs.Math.Bool.{beq}
use Rattle.std.proofs.lemmas.Bool.{cases_Bool, cases_lt, false≢true, eqb-true, eqb-false}
use Rattle.std.proofs.lemmas.List.{take_all}
use Rattle.std.proofs.lemmas.List.Concat.{flat_map-cons}
use Rattle.std.proofs.lemmas.List.Sums.{count_by_more_yes, count_by_more_no, count_by-le-length}
use Rattle.std.proofs.lemmas.List.Elements.{All-cons, All-nil, All-head, All-tail, All-append}
use Rattle.sat_core.specs.declared.literal.Lit.{Lit}
use Rattle.sat_core.specs.Clauses.{Satisfies, SatisfiesAll}
use Rattle.gate_tables.specs.Wiring.{is_true_in, no_lit}
use Rattle.gate_tables.proofs.GateLaws.{eq_law, or2_law, and2_law, cell_law, satisfied_clause}
use Rattle.border_counter.specs.Counter.{at_least_lit, not_at_least_lit, input_at, gate_at, row_clauses, gates_of, order_at, order_clauses, counter_clauses, true_among, Counts}
use Rattle.border_counter.specs.Fitting.{FitsCounter}
use Rattle.border_counter.proofs.GateLemmas.{numbers_of, first_wired, lowest_wired, highest_wired, between_wired}
use Rattle.border_counter.proofs.OrderLemmas.{order_clause}

-- all of a list over a range hold where all of each number do
all_front : {X : Type 0} (P : X → Type 0) (xs ys : List X) → All P (xs ++ ys) → All P xs
all_front P [] ys all = All-nil P
all_front P (x ∷ xs) ys all = All-cons P x xs (All-head P x (xs ++ ys) all) (all_front P xs ys (All-tail P x (xs ++ ys) all))

all_back : {X : Type 0} (P : X → Type 0) (xs ys : List X) → All P (xs ++ ys) → All P ys
all_back P [] ys all = all
all_back P (x ∷ xs) ys all = all_back P xs ys (All-tail P x (xs ++ ys) all)

pub each_of_range : {X : Type 0} (P : X → Type 0) (f : ℕ → List X) (a n i : ℕ) → All P (flat_map f (range_with_len a n)) → a ≤ i → i < a + n → All P (f i)
each_of_range P f a zero i all low high = absurd (omega arith)
each_of_range P f a (suc n) i all low high =
    let parts : All P (f a ++ flat_map f (range_with_len (a + 1) n)) = subst (All P) (flat_map-cons f a (range_with_len (a + 1) n)) all in
    elim (cases_lt a i) [
      | inl below ↦ each_of_range P f (a + 1) n i (all_back P (f a) _ parts) (omega arith) (omega arith)
      | inr above ↦ let same : a ≡ i = omega arith in subst (λ k. All P (f k)) same (all_front P (f a) _ parts)
    ]

pub all_of_range : {X : Type 0} (P : X → Type 0) (f : ℕ → List X) (a n : ℕ) → ((i : ℕ) → a ≤ i → i < a + n → All P (f i)) → All P (flat_map f (range_with_len a n))
all_of_range P f a zero each = All-nil P
all_of_range P f a (suc n) each = subst (All P) (sym (flat_map-cons f a (range_with_len (a + 1) n))) (All-append P (f a) (flat_map f (range_with_len (a + 1) n)) (each a (omega arith) (omega arith)) (all_of_range P f (a + 1) n (λ i low high. each i (omega arith) (omega arith))))

-- what the gate of a row and a place says of its output
gate_value : List Bool → List Lit → ℕ → ℕ → ℕ → Bool
gate_value values inputs first i j =
    let p = is_true_in values (at_least_lit first (i - 1) j) in
    let x = is_true_in values (input_at inputs i) in
    let q = is_true_in values (at_least_lit first (i - 1) (j - 1)) in
    cond (nat_eq i 1) x (cond (nat_eq j 1) (p || x) (cond (nat_eq i j) (x && q) (p || (x && q))))

apart_from : (a b : ℕ) → nat_eq a b ≡ false → a ≢ b
apart_from a b test = eqb-false a b test

gate_says : (values : List Bool) (inputs : List Lit) (first i j : ℕ) → FitsCounter (length values) inputs first → 1 ≤ j → j ≤ i → i ≤ length inputs → SatisfiesAll values (gate_at inputs first i j) ↔ (is_true_in values (at_least_lit first i j) ≡ gate_value values inputs first i j)
unfolding gate_value
gate_says values inputs first i j fits low high within =
    let numbers = numbers_of (length values) inputs first i j fits low high within in
    elim (cases_Bool (nat_eq i 1)) [
      | inl one ↦
          let wires = first_wired _ inputs first i j _ _ numbers refl refl (eqb-true i 1 one) in
          rw (one, wires.is) (eq_law values _ _ wires.clause)
      | inr more ↦ elim (cases_Bool (nat_eq j 1)) [
        | inl lowest ↦
            let wires = lowest_wired _ inputs first i j _ _ _ numbers refl refl refl (let apart : i ≢ 1 = apart_from i 1 more in omega arith) (eqb-true j 1 lowest) in
            rw (more, lowest, wires.is) (or2_law values _ _ _ wires.clause)
        | inr above ↦ elim (cases_Bool (nat_eq i j)) [
          | inl highest ↦
              let wires = highest_wired _ inputs first i j _ _ _ numbers refl refl refl (let apart : j ≢ 1 = apart_from j 1 above in omega arith) (eqb-true i j highest) in
              rw (more, above, highest, wires.is) (and2_law values _ _ _ wires.clause)
          | inr below ↦
              let wires = between_wired _ inputs first i j _ _ _ _ numbers refl refl refl refl (let apart : j ≢ 1 = apart_from j 1 above in omega arith) (let apart : i ≢ j = apart_from i j below in omega arith) in
              rw (more, above, below, wires.is) (cell_law values _ _ _ _ wires.clause)
        ]
      ]
    ]

-- one input more
among_more : (values : List Bool) (inputs : List Lit) (i : ℕ) → i < length inputs → true_among values inputs (i + 1) ≡ true_among values inputs i + cond (is_true_in values (get_or inputs i no_lit)) 1 0
among_more values inputs i within = elim (cases_Bool (is_true_in values (get_or inputs i no_lit))) [
  | inl here ↦ rw here (count_by_more_yes (is_true_in values) inputs i no_lit within here)
  | inr other ↦ rw other (count_by_more_no (is_true_in values) inputs i no_lit within other ∙ omega arith)
]

among_le : (values : List Bool) (inputs : List Lit) (i : ℕ) → true_among values inputs i ≤ i
among_le values inputs i = omega (arith, count_by-le-length (is_true_in values) (take i inputs), length-take i inputs)

eq_step : (x : Bool) (j t : ℕ) → j ≡ 1 → t ≡ 0 → (x ≡ true) ↔ (j ≤ t + cond x 1 0)
eq_step true j t one none = (λ h. omega arith, λ h. refl)
eq_step false j t one none = (λ h. absurd (false≢true h), λ h. absurd (omega arith))

or2_step : (p x : Bool) (j t : ℕ) → j ≡ 1 → (p ≡ true) ↔ (j ≤ t) → ((p || x) ≡ true) ↔ (j ≤ t + cond x 1 0)
or2_step true x j t one before = (λ h. let l : j ≤ t = before.0 refl in omega arith, λ h. refl)
or2_step false true j t one before = (λ h. omega arith, λ h. refl)
or2_step false false j t one before = (λ h. absurd (false≢true h), λ h. before.1 (omega arith))

and2_step : (x q : Bool) (j t : ℕ) → 1 ≤ j → t < j → (q ≡ true) ↔ (j - 1 ≤ t) → ((x && q) ≡ true) ↔ (j ≤ t + cond x 1 0)
and2_step true q j t some below before = (λ h. let l : j - 1 ≤ t = before.0 h in omega arith, λ h. before.1 (omega arith))
and2_step false q j t some below before = (λ h. absurd (false≢true h), λ h. absurd (omega arith))

cell_step : (p x q : Bool) (j t : ℕ) → 1 ≤ j → (p ≡ true) ↔ (j ≤ t) → (q ≡ true) ↔ (j - 1 ≤ t) → ((p || (x && q)) ≡ true) ↔ (j ≤ t + cond x 1 0)
cell_step true x q j t some all less = (λ h. let l : j ≤ t = all.0 refl in omega arith, λ h. refl)
cell_step false true q j t some all less = (λ h. let l : j - 1 ≤ t = less.0 h in omega arith, λ h. less.1 (omega arith))
cell_step false false q j t some all less = (λ h. absurd (false≢true h), λ h. all.1 (omega arith))

abbrev Tells : List Bool → List Lit → ℕ → ℕ → ℕ → Type 0
Tells values inputs first i j = (is_true_in values (at_least_lit first i j) ≡ true) ↔ (j ≤ true_among values inputs i)

-- the gate's function of what the row before tells
value_tells : (values : List Bool) (inputs : List Lit) (first i j : ℕ) → 1 ≤ j → j ≤ i → i ≤ length inputs → (2 ≤ i → j ≤ i - 1 → Tells values inputs first (i - 1) j) → (2 ≤ j → Tells values inputs first (i - 1) (j - 1)) → (gate_value values inputs first i j ≡ true) ↔ (j ≤ true_among values inputs i)
unfolding gate_value
value_tells values inputs first i j low high within same less =
    let t : ℕ = true_among values inputs (i - 1) in
    let x : Bool = is_true_in values (input_at inputs i) in
    let back : i - 1 + 1 ≡ i = omega arith in
    let sum : true_among values inputs i ≡ t + cond x 1 0 = ap (true_among values inputs) (sym back) ∙ among_more values inputs (i - 1) (omega arith) in
    let few : t ≤ i - 1 = among_le values inputs (i - 1) in
    let turn : (b : Bool) → (b ≡ true) ↔ (j ≤ t + cond x 1 0) → (b ≡ true) ↔ (j ≤ true_among values inputs i) = λ b law. (λ h. let l : j ≤ t + cond x 1 0 = law.0 h in omega arith, λ h. law.1 (omega arith)) in
    elim (cases_Bool (nat_eq i 1)) [
      | inl one ↦ let first_row : i ≡ 1 = eqb-true i 1 one in rw one (turn x (eq_step x j t (omega arith) (omega arith)))
      | inr more ↦ let apart : i ≢ 1 = apart_from i 1 more in elim (cases_Bool (nat_eq j 1)) [
        | inl lowest ↦ let single : j ≡ 1 = eqb-true j 1 lowest in rw (more, lowest) (turn _ (or2_step _ x j t single (same (omega arith) (omega arith))))
        | inr above ↦ let several : j ≢ 1 = apart_from j 1 above in elim (cases_Bool (nat_eq i j)) [
          | inl highest ↦ let top : i ≡ j = eqb-true i j highest in rw (more, above, highest) (turn _ (and2_step x _ j t low (omega arith) (less (omega arith))))
          | inr below ↦ let under : i ≢ j = apart_from i j below in rw (more, above, below) (turn _ (cell_step _ x _ j t low (same (omega arith) (omega arith)) (less (omega arith))))
        ]
      ]
    ]

same_bool : (a b : Bool) (P : Type 0) → (a ≡ true) ↔ P → (b ≡ true) ↔ P → a ≡ b
same_bool true true P one other = refl
same_bool true false P one other = sym (other.1 (one.0 refl))
same_bool false true P one other = one.1 (other.0 refl)
same_bool false false P one other = refl

gate_in : (values : List Bool) (inputs : List Lit) (first n i j : ℕ) → SatisfiesAll values (gates_of inputs first n) → 1 ≤ j → j ≤ i → i ≤ n → SatisfiesAll values (gate_at inputs first i j)
unfolding gates_of row_clauses
gate_in values inputs first n i j all low high within = each_of_range (Satisfies values) (gate_at inputs first i) 1 i j (each_of_range (Satisfies values) (row_clauses inputs first) 1 n i all (omega arith) (omega arith)) low (omega arith)

-- from the clauses to what the variables tell, row by row
tells_row : (values : List Bool) (inputs : List Lit) (first : ℕ) → FitsCounter (length values) inputs first → SatisfiesAll values (gates_of inputs first (length inputs)) → (i j : ℕ) → 1 ≤ j → j ≤ i → i ≤ length inputs → Tells values inputs first i j
tells_row values inputs first fits all zero j low high within = absurd (omega arith)
tells_row values inputs first fits all (suc i) j low high within =
    let back : i ≡ suc i - 1 = omega arith in
    let says = (gate_says values inputs first (suc i) j fits low high within).0 (gate_in values inputs first (length inputs) (suc i) j all low high within) in
    let tells = value_tells values inputs first (suc i) j low high within
    (λ two below. subst (λ k. Tells values inputs first k j) back (tells_row values inputs first fits all i j low (omega arith) (omega arith)))
    (λ two. subst (λ k. Tells values inputs first k (j - 1)) back (tells_row values inputs first fits all i (j - 1) (omega arith) (omega arith) (omega arith))) in
    (λ h. tells.0 (sym says ∙ h), λ h. says ∙ tells.1 h)

-- from what the variables tell to the gates
gates_hold : (values : List Bool) (inputs : List Lit) (first : ℕ) → FitsCounter (length values) inputs first → Counts values inputs first (length inputs) → SatisfiesAll values (gates_of inputs first (length inputs))
unfolding gates_of row_clauses
gates_hold values inputs first fits counts = all_of_range (Satisfies values) (row_clauses inputs first) 1 (length inputs) (λ i low high. all_of_range (Satisfies values) (gate_at inputs first i) 1 i (λ j some below.
    (gate_says values inputs first i j fits some (omega arith) (omega arith)).1
    (same_bool _ _ (j ≤ true_among values inputs i) (counts i j some (omega arith) (omega arith))
    (value_tells values inputs first i j some (omega arith) (omega arith) (λ two within. counts (i - 1) j some within (omega arith)) (λ two. counts (i - 1) (j - 1) (omega arith) (omega arith) (omega arith))))))

falls : (b c : Bool) → (beq b true ≡ true → beq c true ≡ true) → (beq b false || (beq c true || false)) ≡ true
falls true true h = refl
falls true false h = h refl
falls false c h = refl

order_holds : (values : List Bool) (inputs : List Lit) (first : ℕ) → FitsCounter (length values) inputs first → Counts values inputs first (length inputs) → SatisfiesAll values (order_clauses first (length inputs))
unfolding order_clauses order_at
order_holds values inputs first fits counts = all_of_range (Satisfies values) (order_at first (length inputs)) 1 (length inputs - 1) (λ j low high.
    let more = not_at_least_lit first (length inputs) (j + 1) in
    let fewer = at_least_lit first (length inputs) j in
    let clause = order_clause (length values) inputs first j more fewer fits low (omega arith) refl refl in
    let upper = counts (length inputs) (j + 1) (omega arith) (omega arith) (omega arith) in
    let lower = counts (length inputs) j low (omega arith) (omega arith) in
    All-cons (Satisfies values) (more ∷ fewer ∷ []) [] ((satisfied_clause values (more ∷ fewer ∷ []) clause.in_range).1 (falls _ _ (λ h. lower.1 (let l : j + 1 ≤ true_among values inputs (length inputs) = upper.0 h in omega arith)))) (All-nil (Satisfies values)))

-- the law of the counter
pub counter_law : (values : List Bool) (inputs : List Lit) (first : ℕ) → FitsCounter (length values) inputs first → SatisfiesAll values (counter_clauses inputs first (length inputs)) ↔ Counts values inputs first (length inputs)
counter_law values inputs first fits = (
  λ all. tells_row values inputs first fits (all_front (Satisfies values) (gates_of inputs first (length inputs)) (order_clauses first (length inputs)) all),
  λ counts. All-append (Satisfies values) (gates_of inputs first (length inputs)) (order_clauses first (length inputs)) (gates_hold values inputs first fits counts) (order_holds values inputs first fits counts),
)

-- at least j of all inputs
pub counter_tells : (values : List Bool) (inputs : List Lit) (first : ℕ) → FitsCounter (length values) inputs first → SatisfiesAll values (counter_clauses inputs first (length inputs)) → (j : ℕ) → 1 ≤ j → j ≤ length inputs → (is_true_in values (at_least_lit first (length inputs) j) ≡ true) ↔ (j ≤ count_by (is_true_in values) inputs)
counter_tells values inputs first fits all j low high =
    let law = (counter_law values inputs first fits).0 all (length inputs) j low high (omega arith) in
    let whole : true_among values inputs (length inputs) ≡ count_by (is_true_in values) inputs = ap (count_by (is_true_in values)) (take_all (length inputs) inputs (omega arith)) in
    (λ h. let l : j ≤ true_among values inputs (length inputs) = law.0 h in omega arith, λ h. law.1 (omega arith))
