-- The clauses of a counter are short; and what a writer keeps when it takes them.
use Rattle.std.proofs.Common.{◌≡◌, ℕ, ◌+◌, ◌-◌, ◌*◌, ◌≤◌, ◌^◌, Bool, true, false, cond, List, [], ◌∷◌, ◌++◌, length, ap, ◌∙◌, refl, sym, arith, length-append}
use Rattle.std.specs.Prelude.{All, nat_eq, nat_le}
use Rattle.std.specs.List.{sum_by, range_with_len, list_all}
use Rattle.std.proofs.lemmas.Bool.{false≢true, leb-true}
use Rattle.std.proofs.lemmas.List.Sums.{sum_by-le}
use Rattle.std.proofs.lemmas.List.Elements.{All-nil, All-cons, All-append}
use Rattle.sat_core.specs.declared.literal.Lit.{Lit}
use Rattle.sat_core.specs.Storage.{FormulaParts}
use Rattle.gate_tables.specs.Gates.{eq_clauses, or2_clauses, and2_clauses, cell_clauses}
use Rattle.gate_tables.specs.Wiring.{wired}
use Rattle.border_counter.specs.Counter.{at_least_lit, input_at, gate_at, row_clauses, gates_of, order_at, order_clauses, counter_clauses}
use Rattle.clause_list.proofs.ListLaws.{both_true}
use Rattle.clause_list.proofs.ClauseLaws.{all_each}
use Rattle.clause_encoder.specs.Writing.{IsWriter}

-- none has more than three literals
record AreShort (clauses : List (List Lit)) : Type 0 where
  each : All (λ c. length c ≤ 3) clauses

all_short : (clauses : List (List Lit)) → list_all (λ c. nat_le (length c) 3) clauses ≡ true → All (λ c. length c ≤ 3) clauses
all_short [] test = All-nil (λ c. length c ≤ 3)
all_short (c ∷ clauses) test =
    let (this, others) = both_true (nat_le (length c) 3) (list_all (λ c. nat_le (length c) 3) clauses) test in
    All-cons (λ c. length c ≤ 3) c clauses (leb-true (length c) 3 this) (all_short clauses others)

one_of_two : (test : Bool) (xs ys : List (List Lit)) → AreShort xs → AreShort ys → AreShort (cond test xs ys)
one_of_two true xs ys one other = one
one_of_two false xs ys one other = other

gate_short : (inputs : List Lit) (first i j : ℕ) → AreShort (gate_at inputs first i j)
unfolding gate_at
gate_short inputs first i j =
    let s : Lit = at_least_lit first i j in
    let p : Lit = at_least_lit first (i - 1) j in
    let x : Lit = input_at inputs i in
    let q : Lit = at_least_lit first (i - 1) (j - 1) in
    one_of_two (nat_eq i 1) (wired (x ∷ s ∷ []) eq_clauses) _ (record { each = all_short (wired (x ∷ s ∷ []) eq_clauses) refl })
    (one_of_two (nat_eq j 1) (wired (p ∷ x ∷ s ∷ []) or2_clauses) _ (record { each = all_short (wired (p ∷ x ∷ s ∷ []) or2_clauses) refl })
    (one_of_two (nat_eq i j) (wired (x ∷ q ∷ s ∷ []) and2_clauses) _ (record { each = all_short (wired (x ∷ q ∷ s ∷ []) and2_clauses) refl })
    (record { each = all_short (wired (p ∷ x ∷ q ∷ s ∷ []) cell_clauses) refl })))

counter_short : (inputs : List Lit) (first n : ℕ) → All (λ c. length c ≤ 3) (counter_clauses inputs first n)
unfolding gates_of row_clauses order_clauses order_at
counter_short inputs first n =
    All-append (λ c. length c ≤ 3) (gates_of inputs first n) (order_clauses first n)
    (all_each (λ c. length c ≤ 3) (row_clauses inputs first) (range_with_len 1 n) (λ i row. all_each (λ c. length c ≤ 3) (gate_at inputs first i) (range_with_len 1 i) (λ j gate. (gate_short inputs first i j).each)))
    (all_each (λ c. length c ≤ 3) (order_at first n) (range_with_len 1 (n - 1)) (λ j step. all_short (order_at first n j) refl))

-- so their literals are few
pub counter_few : (inputs : List Lit) (first n : ℕ) → sum_by length (counter_clauses inputs first n) ≤ length (counter_clauses inputs first n) * 3
counter_few inputs first n = sum_by-le length 3 (counter_clauses inputs first n) (counter_short inputs first n)

-- a writer that took some short clauses
pub writer_counted : (most count lits clauses literals : ℕ) (keeps : Bool) (f g : FormulaParts) (taken : List (List Lit)) → IsWriter most count lits keeps f → count + clauses ≤ most → clauses ≡ length taken → literals ≤ clauses * 3 → (keeps ≡ true → g.clauses ≡ f.clauses ++ taken) → IsWriter most (count + clauses) (lits + literals) keeps g
writer_counted most count lits clauses literals keeps f g taken writer room size small kept = record {
  within = room;
  few = writer.few;
  few_lits = (let l : lits ≤ count * 2 ^ 32 = writer.few_lits in omega arith);
  kept = λ k. (let e : length g.clauses ≡ length f.clauses + length taken = ap length (kept k) ∙ length-append f.clauses taken in let h : length f.clauses ≡ count = writer.kept k in omega arith);
}

-- a writer that only counted some clauses
pub writer_skips : (most count lits clauses literals : ℕ) (keeps : Bool) (f : FormulaParts) → IsWriter most count lits keeps f → count + clauses ≤ most → literals ≤ clauses * 2 ^ 32 → keeps ≡ false → IsWriter most (count + clauses) (lits + literals) keeps f
writer_skips most count lits clauses literals keeps f writer room small counts = record {
  within = room;
  few = writer.few;
  few_lits = (let l : lits ≤ count * 2 ^ 32 = writer.few_lits in omega arith);
  kept = λ k. absurd (false≢true (sym counts ∙ k));
}
