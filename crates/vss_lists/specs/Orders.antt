-- Orders of rules: which rule is the first that is broken, as an answer tells it.
use Rattle.std.specs.Prelude.{◌≡◌, ℕ, zero, suc, List, [], ◌∷◌, Some, slice_get, ⊤}
use Rattle.vss_lists.specs.Breaks.{BreaksFirstAt, FailsFirstAt, HoldsBelow, HoldsOfEach, HoldsOfNumbers}

-- a rule of an order: what keeps it, and which answers tell how it is broken
pub record OrderRule (Answer : Type 0) : Type 1 where
  pub kept : Type 0
  pub told : Answer → Type 0

-- a fact, which this answer denies
abbrev pub rule : {Answer : Type 0} → Answer → Type 0 → OrderRule Answer
rule denied fact = record { kept = fact; told = λ answer. (answer ≡ denied) × ¬ fact }

-- what holds of each item of a list at its place; an answer tells the first place where it doesn't
abbrev pub rule_of_each : {Answer X : Type 0} → (ℕ → Answer) → (ℕ → X → Type 0) → List X → OrderRule Answer
rule_of_each at_place holds items = record {
  kept = HoldsOfEach holds items;
  told = λ answer. (place : ℕ) × (answer ≡ at_place place) × BreaksFirstAt holds items place;
}

-- what holds of each number below a count; an answer tells the first number of which it doesn't
abbrev pub rule_of_numbers : {Answer : Type 0} → (ℕ → Answer) → (ℕ → Type 0) → ℕ → OrderRule Answer
rule_of_numbers at_number holds count = record {
  kept = HoldsOfNumbers holds count;
  told = λ answer. (number : ℕ) × (answer ≡ at_number number) × FailsFirstAt holds count number;
}

-- the rules are kept
abbrev pub AreKept : {Answer : Type 0} → List (OrderRule Answer) → Type 0
AreKept [] = ⊤
AreKept (this ∷ later) = this.kept × AreKept later

-- the rule of that number is broken as the answer tells, and those before it are kept
abbrev pub BreaksFirst : {Answer : Type 0} → List (OrderRule Answer) → ℕ → Answer → Type 0
BreaksFirst [] number answer = ⊥
BreaksFirst (this ∷ later) zero answer = this.told answer
BreaksFirst (this ∷ later) (suc number) answer = this.kept × BreaksFirst later number answer

-- the answer tells the first rule of the order that is broken
unfoldable pub IsFirstBroken : {Answer : Type 0} → List (OrderRule Answer) → Answer → Type 0
IsFirstBroken order answer = (number : ℕ) × BreaksFirst order number answer

-- each item of a list keeps its rules; an answer tells the first item that doesn't, by the first of its
-- rules that is broken
abbrev pub rules_of_each : {Answer X : Type 0} → (ℕ → X → List (OrderRule Answer)) → List X → OrderRule Answer
rules_of_each {Answer} {X} order items = record {
  kept = HoldsOfEach (λ place item. AreKept (order place item)) items;
  told = λ answer. (place : ℕ) × (item : X) × HoldsBelow (λ place item. AreKept (order place item)) items place ×
      (slice_get items place ≡ Some item) × IsFirstBroken (order place item) answer;
}
