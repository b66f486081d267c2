-- A clause of a sound gate over different variables is a clause.
use Rattle.std.proofs.Common.{◌≡◌, ◌≢◌, ℕ, ◌<◌, ◌≤◌, Bool, true, false, cond, not, List, [], ◌∷◌, length, map, get_or, refl, sym, ap, ◌∙◌, inl, inr, arith}
use Rattle.std.specs.Prelude.{All, AllPairs, nat_eq, nat_le}
use Rattle.std.specs.List.{list_all, list_any}
use Rattle.std.proofs.lemmas.Bool.{and_parts, or_parts, leb-true, eqb-false, cases_lt}
use Rattle.std.proofs.lemmas.List.{get_or-map, length-map}
use Rattle.std.proofs.lemmas.List.Elements.{All-cons, All-nil, All-map}
use Rattle.std.proofs.lemmas.List.Kept.{AllPairs-cons}
use Rattle.sat_core.specs.declared.literal.Lit.{Lit}
use Rattle.sat_core.specs.Clauses.{IsOver, IsClause, HasNoVariableTwice, negated}
use Rattle.gate_tables.specs.declared.gate.GateLit.{GateLit}
use Rattle.gate_tables.specs.declared.gate.GateClause.{GateClause}
use Rattle.gate_tables.specs.Gates.{lits_of, are_different, is_gate_clause}
use Rattle.gate_tables.specs.Wiring.{at_pin, no_lit}

-- what the test of a clause finds
pub record Fits (inputs : ℕ) (clause : GateClause) : Type 0 where
  pub few : clause.len ≤ 4
  pub pins : All (λ lit. lit.pin ≤ inputs) (lits_of clause)
  pub different : AllPairs (λ one other. one.pin ≢ other.pin) (lits_of clause)

not_true : (b : Bool) → not b ≡ true → b ≡ false
not_true true h = cc
not_true false h = refl

pub all_from : {X : Type 0} (p : X → Bool) (P : X → Type 0) → ((x : X) → p x ≡ true → P x) → (xs : List X) → list_all p xs ≡ true → All P xs
all_from p P tells [] all = All-nil P
all_from p P tells (x ∷ xs) all =
    let parts = and_parts (p x) (list_all p xs) all in
    All-cons P x xs (tells x parts.0) (all_from p P tells xs parts.1)

none_same : (pin : ℕ) (lits : List GateLit) → list_any (nat_eq pin) (map (λ lit. lit.pin) lits) ≡ false → All (λ other. pin ≢ other.pin) lits
none_same pin [] none = All-nil (λ other. pin ≢ other.pin)
none_same pin (lit ∷ lits) none =
    let parts = or_parts (nat_eq pin lit.pin) (list_any (nat_eq pin) (map (λ lit. lit.pin) lits)) none in
    All-cons (λ other. pin ≢ other.pin) lit lits (eqb-false pin lit.pin parts.0) (none_same pin lits parts.1)

different_pins : (lits : List GateLit) → are_different (map (λ lit. lit.pin) lits) ≡ true → AllPairs (λ one other. one.pin ≢ other.pin) lits
different_pins [] different = λ i j d below within. absurd (omega arith)
different_pins (lit ∷ lits) different =
    let parts = and_parts (not (list_any (nat_eq lit.pin) (map (λ lit. lit.pin) lits))) (are_different (map (λ lit. lit.pin) lits)) different in
    AllPairs-cons (λ one other. one.pin ≢ other.pin) lit lits (none_same lit.pin lits (not_true _ parts.0)) (different_pins lits parts.1)

pub fits_from : (inputs : ℕ) (clause : GateClause) → is_gate_clause inputs clause ≡ true → Fits inputs clause
fits_from inputs clause test =
    let parts = and_parts (nat_le clause.len 4) _ test in
    let more = and_parts (list_all (λ lit. nat_le lit.pin inputs) (lits_of clause)) _ parts.1 in
    record {
      few = leb-true clause.len 4 parts.0;
      pins = all_from (λ lit. nat_le lit.pin inputs) (λ lit. lit.pin ≤ inputs) (λ lit. leb-true lit.pin inputs) (lits_of clause) more.0;
      different = different_pins (lits_of clause) more.1;
    }

same_variable : (b : Bool) (lit : Lit) → (cond b lit (negated lit)).var.0 ≡ lit.var.0
same_variable true lit = refl
same_variable false lit = refl

-- the literal at a pin has the variable of the pin
pub at_pin-var : (pins : List Lit) (lit : GateLit) → (at_pin pins lit).var.0 ≡ (get_or pins lit.pin no_lit).var.0
at_pin-var pins lit = same_variable lit.positive (get_or pins lit.pin no_lit)

other_variable : (pins : List Lit) (one other : ℕ) → HasNoVariableTwice pins → one ≢ other → one < length pins → other < length pins → (get_or pins one no_lit).var.0 ≢ (get_or pins other no_lit).var.0
other_variable pins one other twice differ first second same =
    elim (cases_lt one other) [ inl below ↦ twice one other no_lit below second same | inr above ↦ twice other one no_lit (let apart : other ≢ one = λ e. differ (sym e) in omega arith) first (sym same) ]

pub wired_clause : (vars : ℕ) (pins : List Lit) (lits : List GateLit) → IsClause vars pins → All (λ lit. lit.pin < length pins) lits → AllPairs (λ one other. one.pin ≢ other.pin) lits → IsClause vars (map (at_pin pins) lits)
wired_clause vars pins lits clause within different = record {
  in_range = All-map (IsOver vars) (at_pin pins) lits (λ k d below.
      let at = clause.in_range (get_or lits k d).pin no_lit (within k d below) in
      let same = at_pin-var pins (get_or lits k d) in
      (omega (arith, same, at.0), omega (arith, same, at.1)));
  no_variable_twice = λ i j d before below equal.
      let e : GateLit = record { pin = 0; positive = false } in
      let inside : j < length lits = omega (arith, length-map lits (at_pin pins)) in
      let one : get_or (map (at_pin pins) lits) i d ≡ at_pin pins (get_or lits i e) = get_or-map (at_pin pins) lits i e d (omega arith) in
      let other : get_or (map (at_pin pins) lits) j d ≡ at_pin pins (get_or lits j e) = get_or-map (at_pin pins) lits j e d inside in
      other_variable pins (get_or lits i e).pin (get_or lits j e).pin clause.no_variable_twice (different i j e before inside) (within i e (omega arith)) (within j e inside)
      (sym (at_pin-var pins (get_or lits i e)) ∙ (ap (λ lit. lit.var.0) (sym one) ∙ (equal ∙ (ap (λ lit. lit.var.0) other ∙ at_pin-var pins (get_or lits j e)))));
}
