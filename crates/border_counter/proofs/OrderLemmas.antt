-- The clauses of the order.
use Rattle.std.proofs.Common.{◌≡◌, ◌≢◌, ℕ, ◌+◌, ◌<◌, ◌≤◌, ◌^◌, false, List, [], ◌∷◌, ◌++◌, length, refl, sym, ap, ◌∙◌, inl, inr, arith}
use Rattle.std.specs.Prelude.{Result, OnOk, OnErr, IsOk}
use Rattle.std.specs.declared.alloc.AllocError.{AllocError}
use Rattle.std.proofs.lemmas.Result.{on_ok_weaker, on_err_weaker}
use Rattle.std.proofs.lemmas.Bool.{cases_lt}
use Rattle.std.proofs.lemmas.List.{append-nil}
use Rattle.std.proofs.lemmas.List.Elements.{All-cons, All-nil}
use Rattle.sat_core.specs.declared.literal.Lit.{Lit}
use Rattle.sat_core.specs.Clauses.{IsClause, negated}
use Rattle.sat_core.specs.Storage.{FormulaParts}
use Rattle.border_counter.specs.Counter.{at_least_var, at_least_lit, order_at}
use Rattle.border_counter.specs.Fitting.{FitsCounter}
use Rattle.border_counter.proofs.SumLemmas.{sum_to-pred, sum_to-more}
use Rattle.border_counter.proofs.GateLemmas.{IsAdding, clause_cons, clause_none}

-- the variables of the last row are numbers of the formula
pub order_numbers : (vars : ℕ) (inputs : List Lit) (first j : ℕ) → FitsCounter vars inputs first → 1 ≤ length inputs → j ≤ length inputs → at_least_var first (length inputs) j ≤ vars
order_numbers vars inputs first j fits some within =
    let row = sum_to-pred (length inputs) some in
    let enough = fits.within in
    omega (arith, row, enough)

pub first_positive : (vars : ℕ) (inputs : List Lit) (first : ℕ) → FitsCounter vars inputs first → 1 ≤ length inputs → 2 ≤ first
first_positive vars inputs first fits some =
    let over = fits.inputs_before 0 (record { var = record { 0 = 0 }; positive = false }) (omega arith) in
    omega (arith, over.0, over.1)

pub order_clause : (vars : ℕ) (inputs : List Lit) (first j : ℕ) (more fewer : Lit) → FitsCounter vars inputs first → 1 ≤ j → j < length inputs → more ≡ negated (at_least_lit first (length inputs) (j + 1)) → fewer ≡ at_least_lit first (length inputs) j → IsClause vars (more ∷ fewer ∷ [])
order_clause vars inputs first j more fewer fits low below more_is fewer_is =
    let upper = order_numbers vars inputs first (j + 1) fits (omega arith) (omega arith) in
    let two = first_positive vars inputs first fits (omega arith) in
    let s = at_least_lit first (length inputs) j in
    let n = negated (at_least_lit first (length inputs) (j + 1)) in
    rw (more_is, fewer_is) (clause_cons vars n (s ∷ []) (omega (arith, two), upper) (All-cons (λ other. n.var.0 ≢ other.var.0) s [] (omega arith) (All-nil (λ other. n.var.0 ≢ other.var.0))) (clause_cons vars s [] (omega (arith, two), omega (arith, upper)) (All-nil (λ other. s.var.0 ≢ other.var.0)) (clause_none vars)))

-- what pushing the clause ensures
pub record IsPush (before : FormulaParts) (clause : List Lit) (result : Result (Unit {0}) AllocError) (after : FormulaParts) : Type 0 where
  pub vars : after.vars ≡ before.vars
  pub ok : OnOk result (after.clauses ≡ before.clauses ++ clause ∷ [])
  pub err : OnErr result (after.clauses ≡ before.clauses)
  pub within_room : 1 ≤ before.spare_clauses → length clause ≤ before.spare_lits → IsOk result
  pub room_for_clauses : before.spare_clauses ≤ after.spare_clauses + 1
  pub room_for_lits : before.spare_lits ≤ after.spare_lits + length clause

pub order_added : (inputs : List Lit) (first j : ℕ) (more fewer : Lit) (before after : FormulaParts) (result : Result (Unit {0}) AllocError) → more ≡ negated (at_least_lit first (length inputs) (j + 1)) → fewer ≡ at_least_lit first (length inputs) j → IsPush before (more ∷ fewer ∷ []) result after → IsAdding before (order_at first (length inputs) j) result after
unfolding order_at
order_added inputs first j more fewer before after result more_is fewer_is facts =
    let room_clauses = facts.room_for_clauses in
    let room_lits = facts.room_for_lits in
    record {
      ok = on_ok_weaker result (λ list. record { vars = facts.vars; list = list ∙ ap (λ c. before.clauses ++ c ∷ []) (rw (more_is, fewer_is) refl); room_for_clauses = omega arith; room_for_lits = omega arith }) facts.ok;
      err = on_err_weaker result (λ same. record { vars = facts.vars; front = record { count = 0; few = omega arith; list = same ∙ sym (append-nil before.clauses) } }) facts.err;
      within_room = λ room. facts.within_room (omega (arith, room.0)) (omega (arith, room.1));
    }

pub order_size : (first n j : ℕ) → length (order_at first n j) ≡ 1
unfolding order_at
order_size first n j = refl

-- there are fewer inputs than numbers of 32 bits
pub few_inputs : (vars : ℕ) (inputs : List Lit) (first : ℕ) → FitsCounter vars inputs first → length inputs < 2 ^ 32
few_inputs vars inputs first fits =
    let enough = fits.within in
    let few = fits.numbers in
    let more = sum_to-more (length inputs) in
    elim (cases_lt 0 (length inputs)) [
      | inl some ↦ let two = first_positive vars inputs first fits (omega arith) in omega (arith, enough, few, more, two)
      | inr empty ↦ omega arith
    ]
