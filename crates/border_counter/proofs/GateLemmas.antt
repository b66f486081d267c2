-- The gate of a row and a place: which it is, and that its literals are of different variables.
use Rattle.std.proofs.Common.{◌≡◌, ◌≢◌, ℕ, suc, ◌+◌, ◌-◌, ◌<◌, ◌≤◌, ◌^◌, true, false, List, [], ◌∷◌, ◌++◌, length, map, refl, sym, ap, ◌∙◌, subst, inl, inr, arith}
use Rattle.std.specs.Prelude.{All, nat_eq, sum_by, Result, OnOk, OnErr, IsOk}
use Rattle.std.specs.declared.alloc.AllocError.{AllocError}
use Rattle.std.proofs.lemmas.Result.{on_ok_weaker, on_err_weaker}
use Rattle.std.proofs.lemmas.Bool.{eq-eqb, eqb-true, cases_Bool}
use Rattle.std.proofs.lemmas.List.{length-map}
use Rattle.std.proofs.lemmas.List.Elements.{All-cons, All-nil}
use Rattle.std.proofs.lemmas.List.Kept.{AllPairs-cons}
use Rattle.std.proofs.lemmas.List.Sums.{sum_by-cons}
use Rattle.sat_core.specs.declared.literal.Lit.{Lit}
use Rattle.sat_core.specs.Clauses.{IsOver, IsClause}
use Rattle.sat_core.specs.Storage.{FormulaParts}
use Rattle.gate_tables.specs.declared.gate.GateLit.{GateLit}
use Rattle.gate_tables.specs.Gates.{eq_clauses, or2_clauses, and2_clauses, cell_clauses}
use Rattle.gate_tables.specs.Wiring.{at_pin, wired, no_lit, GainsFront}
use Rattle.border_counter.specs.Counter.{sum_to, at_least_var, at_least_lit, input_at, gate_at}
use Rattle.border_counter.specs.Adding.{AddsAll, AddsFront, HasRoom}
use Rattle.border_counter.specs.Fitting.{FitsCounter}
use Rattle.border_counter.proofs.SumLemmas.{sum_to-pred, sum_to-le}

pub differs : (a b : ℕ) → a ≢ b → nat_eq a b ≡ false
differs a b apart = elim (cases_Bool (nat_eq a b)) [ inl same ↦ absurd (apart (eqb-true a b same)) | inr other ↦ other ]

-- the four gates
pub gate_of_first : (inputs : List Lit) (first i j : ℕ) → i ≡ 1 → gate_at inputs first i j ≡ wired (input_at inputs i ∷ at_least_lit first i j ∷ []) eq_clauses
unfolding gate_at
gate_of_first inputs first i j one = let a : nat_eq i 1 ≡ true = eq-eqb i 1 one in rw a refl

pub gate_of_lowest : (inputs : List Lit) (first i j : ℕ) → i ≢ 1 → j ≡ 1 → gate_at inputs first i j ≡ wired (at_least_lit first (i - 1) j ∷ input_at inputs i ∷ at_least_lit first i j ∷ []) or2_clauses
unfolding gate_at
gate_of_lowest inputs first i j more one = let a : nat_eq i 1 ≡ false = differs i 1 more in let b : nat_eq j 1 ≡ true = eq-eqb j 1 one in rw (a, b) refl

pub gate_of_highest : (inputs : List Lit) (first i j : ℕ) → i ≢ 1 → j ≢ 1 → i ≡ j → gate_at inputs first i j ≡ wired (input_at inputs i ∷ at_least_lit first (i - 1) (j - 1) ∷ at_least_lit first i j ∷ []) and2_clauses
unfolding gate_at
gate_of_highest inputs first i j more above same = let a : nat_eq i 1 ≡ false = differs i 1 more in let b : nat_eq j 1 ≡ false = differs j 1 above in let c : nat_eq i j ≡ true = eq-eqb i j same in rw (a, b, c) refl

pub gate_between : (inputs : List Lit) (first i j : ℕ) → i ≢ 1 → j ≢ 1 → i ≢ j → gate_at inputs first i j ≡ wired (at_least_lit first (i - 1) j ∷ input_at inputs i ∷ at_least_lit first (i - 1) (j - 1) ∷ at_least_lit first i j ∷ []) cell_clauses
unfolding gate_at
gate_between inputs first i j more above below = let a : nat_eq i 1 ≡ false = differs i 1 more in let b : nat_eq j 1 ≡ false = differs j 1 above in let c : nat_eq i j ≡ false = differs i j below in rw (a, b, c) refl

-- a literal of another variable before a clause
pub clause_cons : (vars : ℕ) (lit : Lit) (lits : List Lit) → IsOver vars lit → All (λ other. lit.var.0 ≢ other.var.0) lits → IsClause vars lits → IsClause vars (lit ∷ lits)
clause_cons vars lit lits over apart clause = record {
  in_range = All-cons (IsOver vars) lit lits over clause.in_range;
  no_variable_twice = AllPairs-cons (λ one other. one.var.0 ≢ other.var.0) lit lits apart clause.no_variable_twice;
}

pub clause_none : (vars : ℕ) → IsClause vars []
clause_none vars = record { in_range = All-nil (IsOver vars); no_variable_twice = λ i j d below within. absurd (omega arith) }

-- the numbers of a gate's variables: the input's is below the first of the counter, and those of the row before are below this
-- row's
pub record GateNumbers (vars : ℕ) (inputs : List Lit) (first i j : ℕ) : Type 0 where
  pub input : (1 ≤ (input_at inputs i).var.0) × (suc ((input_at inputs i).var.0) ≤ first)
  pub last : at_least_var first i j ≤ vars
  pub before : 2 ≤ i → sum_to (i - 1) ≡ sum_to (i - 1 - 1) + (i - 1)

pub numbers_of : (vars : ℕ) (inputs : List Lit) (first i j : ℕ) → FitsCounter vars inputs first → 1 ≤ j → j ≤ i → i ≤ length inputs → GateNumbers vars inputs first i j
numbers_of vars inputs first i j fits low high within =
    let over = fits.inputs_before (i - 1) no_lit (omega arith) in
    let row : sum_to i ≡ sum_to (i - 1) + i = sum_to-pred i (omega arith) in
    let most : sum_to i ≤ sum_to (length inputs) = sum_to-le i (length inputs) within in
    let enough = fits.within in
    record {
      input = (over.0, omega (arith, over.1, over.0));
      last = omega (arith, row, most, enough);
      before = λ two. sum_to-pred (i - 1) (omega arith);
    }

alone : (vars first i j : ℕ) → 1 ≤ at_least_var first i j → at_least_var first i j ≤ vars → IsClause vars (at_least_lit first i j ∷ [])
alone vars first i j low high = clause_cons vars (at_least_lit first i j) [] (low, high) (All-nil (λ other. at_least_var first i j ≢ other.var.0)) (clause_none vars)

pub clause_of_first : (vars : ℕ) (inputs : List Lit) (first i j : ℕ) → GateNumbers vars inputs first i j → IsClause vars (input_at inputs i ∷ at_least_lit first i j ∷ [])
clause_of_first vars inputs first i j numbers =
    let x = input_at inputs i in
    let s = at_least_lit first i j in
    let last = numbers.last in let input = numbers.input in
    clause_cons vars x (s ∷ []) (omega (arith, input.0), omega (arith, input.1, last)) (All-cons (λ other. x.var.0 ≢ other.var.0) s [] (omega (arith, input.1)) (All-nil (λ other. x.var.0 ≢ other.var.0))) (alone vars first i j (omega (arith, input.1)) last)

pub clause_of_lowest : (vars : ℕ) (inputs : List Lit) (first i j : ℕ) → GateNumbers vars inputs first i j → 2 ≤ i → 1 ≤ j → j < i → IsClause vars (at_least_lit first (i - 1) j ∷ input_at inputs i ∷ at_least_lit first i j ∷ [])
clause_of_lowest vars inputs first i j numbers two low below =
    let x = input_at inputs i in
    let s = at_least_lit first i j in
    let p = at_least_lit first (i - 1) j in
    let last = numbers.last in let input = numbers.input in let before = numbers.before two in
    let apart : (lit : Lit) → Type 0 = λ other. p.var.0 ≢ other.var.0 in
    clause_cons vars p (x ∷ s ∷ []) (omega (arith, input.1), omega (arith, input.1, last, before)) (All-cons apart x (s ∷ []) (omega (arith, input.1)) (All-cons apart s [] (omega (arith, before)) (All-nil apart))) (clause_of_first vars inputs first i j numbers)

pub clause_of_highest : (vars : ℕ) (inputs : List Lit) (first i j : ℕ) → GateNumbers vars inputs first i j → 2 ≤ i → 2 ≤ j → j ≤ i → IsClause vars (input_at inputs i ∷ at_least_lit first (i - 1) (j - 1) ∷ at_least_lit first i j ∷ [])
clause_of_highest vars inputs first i j numbers two low below =
    let x = input_at inputs i in
    let s = at_least_lit first i j in
    let q = at_least_lit first (i - 1) (j - 1) in
    let last = numbers.last in let input = numbers.input in let before = numbers.before two in
    let inner : IsClause vars (q ∷ s ∷ []) = clause_cons vars q (s ∷ []) (omega (arith, input.1), omega (arith, input.1, last, before)) (All-cons (λ other. q.var.0 ≢ other.var.0) s [] (omega (arith, before)) (All-nil (λ other. q.var.0 ≢ other.var.0))) (alone vars first i j (omega (arith, input.1)) last) in
    let apart : (lit : Lit) → Type 0 = λ other. x.var.0 ≢ other.var.0 in
    clause_cons vars x (q ∷ s ∷ []) (omega (arith, input.0), omega (arith, input.1, last)) (All-cons apart q (s ∷ []) (omega (arith, input.1)) (All-cons apart s [] (omega (arith, input.1)) (All-nil apart))) inner

pub clause_between : (vars : ℕ) (inputs : List Lit) (first i j : ℕ) → GateNumbers vars inputs first i j → 2 ≤ i → 2 ≤ j → j < i → IsClause vars (at_least_lit first (i - 1) j ∷ input_at inputs i ∷ at_least_lit first (i - 1) (j - 1) ∷ at_least_lit first i j ∷ [])
clause_between vars inputs first i j numbers two low below =
    let x = input_at inputs i in
    let s = at_least_lit first i j in
    let p = at_least_lit first (i - 1) j in
    let q = at_least_lit first (i - 1) (j - 1) in
    let last = numbers.last in let input = numbers.input in let before = numbers.before two in
    let apart : (lit : Lit) → Type 0 = λ other. p.var.0 ≢ other.var.0 in
    clause_cons vars p (x ∷ q ∷ s ∷ []) (omega (arith, input.1), omega (arith, input.1, last, before)) (All-cons apart x (q ∷ s ∷ []) (omega (arith, input.1)) (All-cons apart q (s ∷ []) (omega arith) (All-cons apart s [] (omega (arith, before)) (All-nil apart)))) (clause_of_highest vars inputs first i j numbers two low (omega arith))

-- sizes of wired clauses are those of the gate's
sizes-wired : (pins : List Lit) (clauses : List (List GateLit)) → sum_by length (wired pins clauses) ≡ sum_by length clauses
sizes-wired pins [] = refl
sizes-wired pins (lits ∷ clauses) =
    let one = sum_by-cons length (map (at_pin pins) lits) (wired pins clauses) in
    let two = sum_by-cons length lits clauses in
    omega (arith, sizes-wired pins clauses, length-map lits (at_pin pins))

-- the literals of a gate's pins, by whatever names: they are a clause, and the gate is over them
pub record IsWired (vars : ℕ) (gate : List (List Lit)) (pins : List Lit) (clauses : List (List GateLit)) : Type 0 where
  pub clause : IsClause vars pins
  pub is : gate ≡ wired pins clauses

pub first_wired : (vars : ℕ) (inputs : List Lit) (first i j : ℕ) (x s : Lit) → GateNumbers vars inputs first i j → x ≡ input_at inputs i → s ≡ at_least_lit first i j → i ≡ 1 → IsWired vars (gate_at inputs first i j) (x ∷ s ∷ []) eq_clauses
first_wired vars inputs first i j x s numbers x_is s_is one = rw (x_is, s_is) (record { clause = clause_of_first vars inputs first i j numbers; is = gate_of_first inputs first i j one })

pub lowest_wired : (vars : ℕ) (inputs : List Lit) (first i j : ℕ) (p x s : Lit) → GateNumbers vars inputs first i j → p ≡ at_least_lit first (i - 1) j → x ≡ input_at inputs i → s ≡ at_least_lit first i j → 2 ≤ i → j ≡ 1 → IsWired vars (gate_at inputs first i j) (p ∷ x ∷ s ∷ []) or2_clauses
lowest_wired vars inputs first i j p x s numbers p_is x_is s_is two one =
    let more : i ≢ 1 = λ e. absurd (omega arith) in
    rw (p_is, x_is, s_is) (record { clause = clause_of_lowest vars inputs first i j numbers two (omega arith) (omega arith); is = gate_of_lowest inputs first i j more one })

pub highest_wired : (vars : ℕ) (inputs : List Lit) (first i j : ℕ) (x q s : Lit) → GateNumbers vars inputs first i j → x ≡ input_at inputs i → q ≡ at_least_lit first (i - 1) (j - 1) → s ≡ at_least_lit first i j → 2 ≤ j → i ≡ j → IsWired vars (gate_at inputs first i j) (x ∷ q ∷ s ∷ []) and2_clauses
highest_wired vars inputs first i j x q s numbers x_is q_is s_is two same =
    let more : i ≢ 1 = λ e. absurd (omega arith) in
    let above : j ≢ 1 = λ e. absurd (omega arith) in
    rw (x_is, q_is, s_is) (record { clause = clause_of_highest vars inputs first i j numbers (omega arith) two (omega arith); is = gate_of_highest inputs first i j more above same })

pub between_wired : (vars : ℕ) (inputs : List Lit) (first i j : ℕ) (p x q s : Lit) → GateNumbers vars inputs first i j → p ≡ at_least_lit first (i - 1) j → x ≡ input_at inputs i → q ≡ at_least_lit first (i - 1) (j - 1) → s ≡ at_least_lit first i j → 2 ≤ j → j < i → IsWired vars (gate_at inputs first i j) (p ∷ x ∷ q ∷ s ∷ []) cell_clauses
between_wired vars inputs first i j p x q s numbers p_is x_is q_is s_is two below =
    let more : i ≢ 1 = λ e. absurd (omega arith) in
    let above : j ≢ 1 = λ e. absurd (omega arith) in
    let apart : i ≢ j = λ e. absurd (omega arith) in
    rw (p_is, x_is, q_is, s_is) (record { clause = clause_between vars inputs first i j numbers (omega arith) two below; is = gate_between inputs first i j more above apart })

-- what `emit` ensures
pub record IsEmit (before : FormulaParts) (pins : List Lit) (clauses : List (List GateLit)) (count : ℕ) (result : Result (Unit {0}) AllocError) (after : FormulaParts) : Type 0 where
  pub vars : after.vars ≡ before.vars
  pub ok : OnOk result (after.clauses ≡ before.clauses ++ wired pins clauses)
  pub err : OnErr result (GainsFront before.clauses (wired pins clauses) after.clauses)
  pub within_room : count ≤ before.spare_clauses → sum_by length clauses ≤ before.spare_lits → IsOk result
  pub room_for_clauses : before.spare_clauses ≤ after.spare_clauses + count
  pub room_for_lits : before.spare_lits ≤ after.spare_lits + sum_by length clauses

-- what adding clauses ensures
pub record IsAdding (before : FormulaParts) (added : List (List Lit)) (result : Result (Unit {0}) AllocError) (after : FormulaParts) : Type 0 where
  pub ok : OnOk result (AddsAll before added after)
  pub err : OnErr result (AddsFront before added after)
  pub within_room : HasRoom before added → IsOk result

pub gate_added : (vars : ℕ) (before after : FormulaParts) (pins : List Lit) (clauses named : List (List GateLit)) (count : ℕ) (gate : List (List Lit)) (result : Result (Unit {0}) AllocError) → clauses ≡ named → IsWired vars gate pins named → count ≡ length named → IsEmit before pins clauses count result after → IsAdding before gate result after
gate_added vars before after pins clauses named count gate result same wires many facts =
    let is : gate ≡ wired pins clauses = wires.is ∙ ap (wired pins) (sym same) in
    let size : length gate ≡ length clauses = ap length is ∙ length-map clauses (map (at_pin pins)) in
    let known : count ≡ length clauses = many ∙ ap length (sym same) in
    let lits : sum_by length gate ≡ sum_by length clauses = ap (sum_by length) is ∙ sizes-wired pins clauses in
    let clauses_left = facts.room_for_clauses in
    let lits_left = facts.room_for_lits in
    record {
      ok = on_ok_weaker result (λ list. record { vars = facts.vars; list = list ∙ ap (λ cs. before.clauses ++ cs) (sym is); room_for_clauses = omega arith; room_for_lits = omega arith }) facts.ok;
      err = on_err_weaker result (λ front. record { vars = facts.vars; front = subst (λ cs. GainsFront before.clauses cs after.clauses) (sym is) front }) facts.err;
      within_room = λ room. facts.within_room (omega (arith, room.0)) (omega (arith, room.1));
    }

pub gate_size : (vars : ℕ) (gate : List (List Lit)) (pins : List Lit) (clauses : List (List GateLit)) → IsWired vars gate pins clauses → length gate ≡ length clauses
gate_size vars gate pins clauses wires = ap length wires.is ∙ length-map clauses (map (at_pin pins))

-- the variables of the row before are numbers
pub earlier_below : (vars : ℕ) (inputs : List Lit) (first i j k : ℕ) → GateNumbers vars inputs first i j → vars < 2 ^ 32 → 2 ≤ i → k ≤ i - 1 → at_least_var first (i - 1) k < 2 ^ 32
earlier_below vars inputs first i j k numbers few two within =
    let last = numbers.last in
    let before = numbers.before two in
    omega (arith, last, before, few)
