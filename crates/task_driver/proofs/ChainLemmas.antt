-- The unit of an earlier bound follows from that of a later one by the order clauses between them.
use Rattle.std.proofs.Common.{◌≡◌, ℕ, zero, suc, ◌+◌, ◌<◌, ◌≤◌, Bool, true, false, ◌&&◌, ◌||◌, List, [], ◌∷◌, ◌++◌, ◌-◌, refl, sym, ap, subst, ◌∙◌, arith}
use Rattle.std.specs.Prelude.{nat_eq, Some, None}
use Rattle.std.proofs.lemmas.Bool.{eq-eqb, ne_eqb}
use Rattle.std.proofs.lemmas.List.Folds.{list_any-append}
use Rattle.std.proofs.lemmas.List.{append_assoc}
use Rattle.sat_core.specs.declared.literal.ClauseId.{ClauseId}
use Rattle.sat_core.specs.declared.literal.Lit.{Lit}
use Rattle.task_driver.specs.BoundUnits.{order_hints}
use Rattle.sat_core.specs.Hints.{NumberedClause, clause_of, is_same, is_known, hints_fault}

-- the positive literal of the variable that counts to j
abbrev pub count_lit : (ℕ → ℕ) → ℕ → Lit
count_lit var j = record { var = record { 0 = var j }; positive = true }

abbrev pub not_count : (ℕ → ℕ) → ℕ → Lit
not_count var j = record { var = record { 0 = var j }; positive = false }

-- the literals that count to numbers above j
pub data AreAbove (var : ℕ → ℕ) (j : ℕ) : List Lit → Type 0 where
  none : AreAbove var j []
  more : (i : ℕ) (lits : List Lit) → j < i → AreAbove var j lits → AreAbove var j (count_lit var i ∷ lits)

above_push : (var : ℕ → ℕ) (j k : ℕ) (lits : List Lit) → AreAbove var j lits → k < j → AreAbove var k (lits ++ count_lit var j ∷ [])
above_push var j k [] none less = more j [] less none
above_push var j k (l ∷ lits) (more i ls high rest) less = more i (lits ++ count_lit var j ∷ []) (omega arith) (above_push var j k lits rest less)

unknown_same : (var : ℕ → ℕ) (j : ℕ) (lits : List Lit) → ((a b : ℕ) → 0 < a → 0 < b → var a ≡ var b → a ≡ b) → 0 < j → AreAbove var j lits → is_known lits (count_lit var j) ≡ false
unknown_same var j [] one some none = refl
unknown_same var j (l ∷ lits) one some (more i ls high rest) =
    rw (ne_eqb (var j) (var i) (λ same. let e : j ≡ i = one j i some (omega arith) same in omega arith)) (unknown_same var j lits one some rest)

unknown_other : (var : ℕ → ℕ) (j k : ℕ) (lits : List Lit) → AreAbove var k lits → is_known lits (not_count var j) ≡ false
unknown_other var j k [] none = refl
unknown_other var j k (l ∷ lits) (more i ls high rest) = both (nat_eq (var j) (var i)) (is_known lits (not_count var j)) (unknown_other var j k lits rest)
  where
    both : (a b : Bool) → b ≡ false → ((a && false) || b) ≡ false
    both true b is = is
    both false b is = is

pub chain_fault : (var : ℕ → ℕ) (before count : ℕ) (live : List NumberedClause) (low steps : ℕ) (known : List Lit) → ((a b : ℕ) → 0 < a → 0 < b → var a ≡ var b → a ≡ b)
    → ((j : ℕ) → low < j → j ≤ low + steps → clause_of live (record { 0 = before + j }) ≡ Some (not_count var (j + 1) ∷ count_lit var j ∷ []))
    → clause_of live (record { 0 = count + 1 }) ≡ Some (not_count var (low + 1) ∷ [])
    → AreAbove var (low + steps) known → is_known known (count_lit var (low + steps + 1)) ≡ true
    → hints_fault live known (order_hints before count low steps) ≡ None
chain_fault var before count live low zero known one clauses end above first =
    let here : is_known known (count_lit var (low + 1)) ≡ true = subst (λ (n : ℕ). is_known known (count_lit var n) ≡ true) (omega arith) first in
    rw (end, here) refl
chain_fault var before count live low (suc steps) known one clauses end above first =
    let j : ℕ = low + suc steps in
    let clause : clause_of live (record { 0 = before + j }) ≡ Some (not_count var (j + 1) ∷ count_lit var j ∷ []) = clauses j (omega arith) (omega arith) in
    let free : is_known known (not_count var j) ≡ false = unknown_other var j j known above in
    let unset : is_known known (count_lit var j) ≡ false = unknown_same var j known one (omega arith) above in
    let now : is_known (known ++ count_lit var j ∷ []) (count_lit var j) ≡ true = list_any-append (is_same (count_lit var j)) known (count_lit var j ∷ []) ∙ known_last (is_known known (count_lit var j)) (nat_eq (var j) (var j)) (eq-eqb (var j) (var j) refl) in
    rw (clause, first, free, unset)
    (chain_fault var before count live low steps (known ++ count_lit var j ∷ []) one (λ i low' high'. clauses i low' (omega arith)) end (above_push var j (low + steps) known above (omega arith))
    (subst (λ (n : ℕ). is_known (known ++ count_lit var j ∷ []) (count_lit var n) ≡ true) (omega arith) now))
  where
    known_last : (a b : Bool) → b ≡ true → (a || ((b && true) || false)) ≡ true
    known_last true b is = refl
    known_last false b is = rw is refl

-- hints that are put one after another
pub hints_begin : (before count low steps : ℕ) → order_hints before count low (steps - 0) ≡ order_hints before count low steps
hints_begin before count low steps = ap (order_hints before count low) (omega arith)

pub hints_more : (before count low steps step : ℕ) (hints whole : List ClauseId) (id : ClauseId) → step < steps → id.0 ≡ before + (low + steps - step) → hints ++ order_hints before count low (steps - step) ≡ whole
    → (hints ++ id ∷ []) ++ order_hints before count low (steps - (step + 1)) ≡ whole
hints_more before count low steps step hints whole id less number so_far =
    let rest : ℕ = steps - (step + 1) in
    let next : steps - step ≡ suc rest = omega arith in
    let same : id.0 ≡ before + (low + suc rest) = omega arith in
    append_assoc hints (id ∷ []) (order_hints before count low rest)
    ∙ (ap (λ (n : ℕ). hints ++ record { 0 = n } ∷ order_hints before count low rest) same
    ∙ (ap (λ (n : ℕ). hints ++ order_hints before count low n) (sym next) ∙ so_far))

pub hints_end : (before count low steps step : ℕ) (hints whole : List ClauseId) → steps ≤ step → hints ++ order_hints before count low (steps - step) ≡ whole → hints ++ record { 0 = count + 1 } ∷ [] ≡ whole
hints_end before count low steps step hints whole done so_far = ap (λ (n : ℕ). hints ++ order_hints before count low n) (let none : 0 ≡ steps - step = omega arith in none) ∙ so_far
