-- Laws of marks: none, a literal more, and the last one forgotten.
use Rattle.std.proofs.Common.{◌≡◌, ◌≢◌, ℕ, ◌+◌, ◌-◌, ◌*◌, ◌<◌, ◌≤◌, Bool, true, false, cond, ◌||◌, inl, inr, List, [], ◌∷◌, ◌++◌, length, get_or, set, refl, ap, sym, subst, ◌∙◌, arith}
use Rattle.std.specs.Prelude.{replicate}
use Rattle.std.proofs.lemmas.Bool.{cases_eq}
use Rattle.std.proofs.lemmas.List.{length-set, get_or-set_same, get_or-set_other, length-replicate, get_or-replicate, length_push, get_or_push, get_or_append_left}
use Rattle.std.proofs.lemmas.List.Elements.{All-push, All-nil}
use Rattle.std.proofs.Math.Bool.{or-false, or-true}
use Rattle.sat_core.specs.declared.literal.Lit.{Lit}
use Rattle.sat_core.specs.Clauses.{IsOver}
use Rattle.sat_core.specs.Hints.{is_same, is_known}
use Rattle.sat_core.proofs.LiteralLaws.{is_same-true, is_same-refl, is_known-push}
use Rattle.sat_core.specs.Marks.{mark_place, AreMarked}

both_signs : (b c : Bool) (v w : ℕ) → 1 ≤ v → 1 ≤ w → 2 * (v - 1) + cond b 1 0 ≡ 2 * (w - 1) + cond c 1 0 → (v ≡ w) × (b ≡ c)
both_signs true true v w one other same = (omega arith, refl)
both_signs true false v w one other same = absurd (omega arith)
both_signs false true v w one other same = absurd (omega arith)
both_signs false false v w one other same = (omega arith, refl)

true_is_not_false : true ≡ false → ⊥
true_is_not_false same = cc

-- two literals have the same place only if they are the same
pub same_place : (vars : ℕ) (one other : Lit) → IsOver vars one → IsOver vars other → mark_place one ≡ mark_place other → one ≡ other
same_place vars one other over over' same =
    let parts = both_signs one.positive other.positive one.var.0 other.var.0 over.0 over'.0 same in
    let make : ℕ → Bool → Lit = λ n b. record { var = record { 0 = n }; positive = b } in
    ap (λ n. make n one.positive) parts.0 ∙ ap (make other.var.0) parts.1

pub mark_within : (vars : ℕ) (lit : Lit) → IsOver vars lit → mark_place lit < 2 * vars
mark_within vars lit over = elim lit.positive as (λ b. 2 * (lit.var.0 - 1) + cond b 1 0 < 2 * vars) [ true ↦ omega arith | false ↦ omega arith ]

-- another literal isn't the same
pub other_place : (lit added : Lit) → mark_place lit ≢ mark_place added → is_same lit added ≡ false
other_place lit added elsewhere = elim (is_same lit added) as (λ b. is_same lit added ≡ b → b ≡ false) [
  | true ↦ λ same. absurd (elsewhere (ap mark_place (is_same-true lit added same)))
  | false ↦ λ _. refl
] refl

-- one known literal more
pub AreMarked-push : (vars : ℕ) (marks : List Bool) (known : List Lit) (added : Lit) → AreMarked vars marks known → IsOver vars added → AreMarked vars (set marks (mark_place added) true) (known ++ added ∷ [])
AreMarked-push vars marks known added before over = record {
  all_places = length-set marks (mark_place added) true ∙ before.all_places;
  in_range = All-push (IsOver vars) known added before.in_range over;
  marked = λ lit over'.
      let within : mark_place added < length marks = omega (arith, mark_within vars added over, before.all_places) in
      elim (cases_eq (mark_place lit) (mark_place added)) [
        | inl here ↦
            let same : is_same lit added ≡ true = subst (λ other. is_same lit other ≡ true) (same_place vars lit added over' over here) (is_same-refl lit) in
            ap (λ place. get_or (set marks (mark_place added) true) place false) here
            ∙ (get_or-set_same marks (mark_place added) true false within
            ∙ sym (is_known-push known added lit ∙ (ap (λ b. is_known known lit || b) same ∙ or-true (is_known known lit))))
        | inr elsewhere ↦
            get_or-set_other marks (mark_place added) (mark_place lit) true false elsewhere
            ∙ (before.marked lit over'
            ∙ sym (is_known-push known added lit ∙ (ap (λ b. is_known known lit || b) (other_place lit added elsewhere) ∙ or-false (is_known known lit))))
      ];
}

pub AreMarked-none : (vars : ℕ) → AreMarked vars (replicate (2 * vars) false) []
AreMarked-none vars = record {
  all_places = length-replicate (2 * vars) false;
  in_range = All-nil (IsOver vars);
  marked = λ lit over. get_or-replicate (2 * vars) (mark_place lit) false false (mark_within vars lit over);
}

-- the last known literal is forgotten
pub AreMarked-pop : (vars : ℕ) (marks : List Bool) (known : List Lit) (last : Lit) → AreMarked vars marks (known ++ last ∷ []) → is_known known last ≡ false → AreMarked vars (set marks (mark_place last) false) known
AreMarked-pop vars marks known last before fresh =
    let more : length (known ++ last ∷ []) ≡ length known + 1 = length_push known last in
    let over' : IsOver vars last = subst (IsOver vars) (get_or_push known last last (length known) refl) (before.in_range (length known) last (omega arith)) in
    record {
      all_places = length-set marks (mark_place last) false ∙ before.all_places;
      in_range = λ k d within. subst (IsOver vars) (get_or_append_left known (last ∷ []) d k within) (before.in_range k d (omega arith));
      marked = λ lit over.
          let within : mark_place last < length marks = omega (arith, mark_within vars last over', before.all_places) in
          elim (cases_eq (mark_place lit) (mark_place last)) [
            | inl here ↦
                ap (λ place. get_or (set marks (mark_place last) false) place false) here
                ∙ (get_or-set_same marks (mark_place last) false false within
                ∙ sym (ap (is_known known) (same_place vars lit last over over' here) ∙ fresh))
            | inr elsewhere ↦
                get_or-set_other marks (mark_place last) (mark_place lit) false false elsewhere
                ∙ (before.marked lit over
                ∙ (is_known-push known last lit
                ∙ (ap (λ b. is_known known lit || b) (other_place lit last elsewhere) ∙ or-false (is_known known lit))))
          ];
    }
