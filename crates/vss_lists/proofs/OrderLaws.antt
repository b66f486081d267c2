-- At most one answer tells the first rule of an order that is broken, and then the order isn't kept.
use Rattle.std.proofs.Common.{◌≡◌, ◌<◌, inl, inr, ℕ, zero, suc, List, [], ◌∷◌, Some, slice_get, sym, subst, ap, ◌∙◌, arith}
use Rattle.std.specs.Prelude.{⊤}
use Rattle.std.proofs.lemmas.Bool.{cases_lt}
use Rattle.std.proofs.lemmas.Option.{same_Some}
use Rattle.vss_lists.specs.Breaks.{BreaksFirstAt}
use Rattle.vss_lists.specs.Orders.{AreKept, BreaksFirst, IsFirstBroken, OrderRule, rule, rule_of_each, rule_of_numbers, rules_of_each}

-- no answer tells a rule that is kept, and one answer at most tells it
pub record IsSound {Answer : Type 0} (this : OrderRule Answer) : Type 0 where
  pub excludes : (answer : Answer) → this.told answer → ¬ this.kept
  pub one : (first second : Answer) → this.told first → this.told second → first ≡ second

abbrev pub AreSound : {Answer : Type 0} → List (OrderRule Answer) → Type 0
AreSound [] = ⊤
AreSound (this ∷ later) = IsSound this × AreSound later

one_at : {Answer : Type 0} (order : List (OrderRule Answer)) → AreSound order → (m n : ℕ) (first second : Answer) →
    BreaksFirst order m first → BreaksFirst order n second → first ≡ second
one_at [] sound m n first second told other = absurd told
one_at (this ∷ later) sound zero zero first second told other = sound.0.one first second told other
one_at (this ∷ later) sound zero (suc n) first second told other = absurd (sound.0.excludes first told other.0)
one_at (this ∷ later) sound (suc m) zero first second told other = absurd (sound.0.excludes second other told.0)
one_at (this ∷ later) sound (suc m) (suc n) first second told other = one_at later sound.1 m n first second told.1 other.1

-- one answer at most tells the first rule that is broken
pub one_broken : {Answer : Type 0} (order : List (OrderRule Answer)) → AreSound order → (first second : Answer) →
    IsFirstBroken order first → IsFirstBroken order second → first ≡ second
unfolding IsFirstBroken
one_broken order sound first second (m, told) (n, other) = one_at order sound m n first second told other

not_kept_at : {Answer : Type 0} (order : List (OrderRule Answer)) → AreSound order → (n : ℕ) (answer : Answer) → BreaksFirst order n answer → ¬ AreKept order
not_kept_at [] sound n answer told kept = told
not_kept_at (this ∷ later) sound zero answer told kept = sound.0.excludes answer told kept.0
not_kept_at (this ∷ later) sound (suc n) answer told kept = not_kept_at later sound.1 n answer told.1 kept.1

-- where an answer tells a broken rule, the order isn't kept
pub not_kept : {Answer : Type 0} (order : List (OrderRule Answer)) → AreSound order → (answer : Answer) → IsFirstBroken order answer → ¬ AreKept order
unfolding IsFirstBroken
not_kept order sound answer (n, told) = not_kept_at order sound n answer told

-- of two numbers before which all is well and which are not well, neither is before the other
one_number : (well : ℕ → Type 0) (i j : ℕ) → ((k : ℕ) → k < i → well k) → ¬ well i → ((k : ℕ) → k < j → well k) → ¬ well j → i ≡ j
one_number well i j before fails before' fails' = elim (cases_lt i j) [
  | inl low ↦ absurd (fails (before' i low))
  | inr high ↦ elim (cases_lt j i) [ inl low ↦ absurd (fails' (before j low)) | inr same ↦ omega arith ]
]

-- a rule is first broken at one place
pub one_place : {X : Type 0} (holds : ℕ → X → Type 0) (items : List X) (i j : ℕ) → BreaksFirstAt holds items i → BreaksFirstAt holds items j → i ≡ j
one_place {X} holds items i j first second =
    one_number (λ k. (item : X) → slice_get items k ≡ Some item → holds k item) i j
    (λ k low item is. first.before k item low is) (λ well. first.breaks (well first.item first.is_there))
    (λ k low item is. second.before k item low is) (λ well. second.breaks (well second.item second.is_there))

pub sound_rule : {Answer : Type 0} (denied : Answer) (fact : Type 0) → IsSound (rule denied fact)
sound_rule denied fact = record {
  excludes = λ answer told kept. told.1 kept;
  one = λ first second told other. told.0 ∙ sym other.0;
}

pub sound_each : {Answer X : Type 0} (at_place : ℕ → Answer) (holds : ℕ → X → Type 0) (items : List X) → IsSound (rule_of_each at_place holds items)
sound_each at_place holds items = record {
  excludes = λ answer told kept. let first = told.2 in first.breaks (kept.at_each told.0 first.item first.is_there);
  one = λ first second told other. told.1 ∙ (ap at_place (one_place holds items told.0 other.0 told.2 other.2) ∙ sym other.1);
}

pub sound_numbers : {Answer : Type 0} (at_number : ℕ → Answer) (holds : ℕ → Type 0) (count : ℕ) → IsSound (rule_of_numbers at_number holds count)
sound_numbers at_number holds count = record {
  excludes = λ answer told kept. let first = told.2 in first.fails (kept.at_each told.0 first.within);
  one = λ first second told other. told.1 ∙ (ap at_number (one_number holds told.0 other.0 told.2.before told.2.fails other.2.before other.2.fails) ∙ sym other.1);
}

pub sound_rules : {Answer X : Type 0} (order : ℕ → X → List (OrderRule Answer)) (items : List X) →
    ((place : ℕ) (item : X) → AreSound (order place item)) → IsSound (rules_of_each order items)
sound_rules {Answer} {X} order items sound = record {
  excludes = λ answer (place, item, before, is, told) kept. not_kept (order place item) (sound place item) answer told (kept.at_each place item is);
  one = λ first second (i, x, before, is, told) (j, y, before', is', other).
      let well : ℕ → Type 0 = λ k. (item : X) → slice_get items k ≡ Some item → AreKept (order k item) in
      let at : i ≡ j = one_number well i j (λ k low item there. before k item low there) (λ kept. not_kept (order i x) (sound i x) first told (kept x is))
      (λ k low item there. before' k item low there) (λ kept. not_kept (order j y) (sound j y) second other (kept y is')) in
      let item : x ≡ y = same_Some x y (sym (subst (λ k. slice_get items k ≡ Some x) at is) ∙ is') in
      let moved : IsFirstBroken (order j y) first = subst (λ z. IsFirstBroken (order j z) first) item (subst (λ k. IsFirstBroken (order k x) first) at told) in
      one_broken (order j y) (sound j y) first second moved other;
}
