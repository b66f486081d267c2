-- A full trail on which nothing follows from any clause: its valuation satisfies them.
use Rattle.std.proofs.Common.{◌≡◌, ℕ, ◌+◌, ◌-◌, ◌<◌, ◌≤◌, Bool, true, false, ◌⊎◌, inl, inr, List, length, get_or, set, refl, ap, sym, subst, ◌∙◌, arith}
use Rattle.std.specs.Prelude.{Some}
use Rattle.std.proofs.lemmas.Bool.{cases_eq, cases_Bool}
use Rattle.std.proofs.lemmas.List.{get_or-set_same, get_or-set_other}
use Rattle.std.proofs.lemmas.List.Elements.{All-contains}
use Rattle.std.proofs.lemmas.Option.{slice_get-get_or}
use Rattle.sat_core.specs.declared.literal.Lit.{Lit}
use Rattle.sat_core.specs.Clauses.{negated, IsOver, IsClause, IsTrueIn, Satisfies}
use Rattle.sat_core.specs.Hints.{is_known}
use Rattle.sat_core.specs.Fresh.{IsOpen, IsAtRest}
use Rattle.sat_core.proofs.OpenLaws.{one_variable, true_is_not_false}
use Rattle.trail_values.specs.Full.{IsFull, AreTruths}

-- ---- the variables one by one
abbrev pub IsTold : List Lit → Lit → Type 0
IsTold known lit = (is_known known lit ≡ true) ⊎ (is_known known (negated lit) ≡ true)

abbrev pub AreToldTo : List Lit → ℕ → Type 0
AreToldTo known place = (lit : Lit) → 1 ≤ lit.var.0 → lit.var.0 ≤ place → IsTold known lit

pub told_none : (known : List Lit) → AreToldTo known 0
told_none known lit low high = absurd (omega arith)

pub told_more : (known : List Lit) (place : ℕ) (lit : Lit) → lit.var.0 ≡ place + 1 → IsTold known lit → AreToldTo known place → AreToldTo known (place + 1)
told_more known place lit variable told before other low high = elim (cases_eq other.var.0 (place + 1)) [
  | inr apart ↦ before other low (omega arith)
  | inl here ↦ elim (one_variable other lit (here ∙ sym variable)) [
    | inl same ↦ subst (IsTold known) (sym same) told
    | inr turned ↦ elim told [
      | inl is ↦ inr (ap (is_known known) (ap negated turned ∙ Rattle.sat_core.proofs.LiteralLaws.negated-negated lit) ∙ is)
      | inr is ↦ inl (ap (is_known known) turned ∙ is)
    ]
  ]
]

pub told_all : (vars : ℕ) (known : List Lit) (place : ℕ) → vars ≤ place → AreToldTo known place → IsFull vars known
told_all vars known place all told lit over = told lit over.0 (omega (arith, over.1))

abbrev pub AreTruthsTo : List Lit → List Bool → ℕ → Type 0
AreTruthsTo known values upto = (place : ℕ) → place < upto → get_or values place true ≡ is_known known (record { var = record { 0 = place + 1 }; positive = true })

pub truths_none : (known : List Lit) (values : List Bool) → AreTruthsTo known values 0
truths_none known values place below = absurd (omega arith)

pub truths_more : (known : List Lit) (values : List Bool) (upto : ℕ) (lit : Lit) (value : Bool) → upto < length values → lit.var.0 ≡ upto + 1 → lit.positive ≡ true → value ≡ is_known known lit → AreTruthsTo known values upto → AreTruthsTo known (set values upto value) (upto + 1)
truths_more known values upto lit value within variable sign is before place below = elim (cases_eq place upto) [
  | inl here ↦
      let make : ℕ → Bool → Lit = λ n b. record { var = record { 0 = n }; positive = b } in
      let same : lit ≡ make (place + 1) true = ap (λ n. make n lit.positive) (variable ∙ ap (λ n. n + 1) (sym here)) ∙ ap (make (place + 1)) sign in
      ap (λ n. get_or (set values upto value) n true) here ∙ (get_or-set_same values upto value true within ∙ (is ∙ ap (is_known known) same))
  | inr apart ↦ get_or-set_other values upto place value true apart ∙ before place (omega arith)
]

-- ---- the valuation of a full trail
bool_is : (b c : Bool) → (b ≡ true → c ≡ true) → (b ≡ false → c ≡ false) → c ≡ b
bool_is true c is_true is_false = is_true refl
bool_is false c is_true is_false = is_false refl

true_in : (vars : ℕ) (known : List Lit) (values : List Bool) (lit : Lit) → ((l : Lit) → is_known known l ≡ true → is_known known (negated l) ≡ false) → AreTruths vars known values → length values ≡ vars → IsOver vars lit → is_known known lit ≡ true → IsTrueIn values lit
true_in vars known values lit signs truths long over is =
    let place : ℕ = lit.var.0 - 1 in
    let number : place + 1 ≡ lit.var.0 = omega (arith, over.0) in
    let make : ℕ → Bool → Lit = λ n b. record { var = record { 0 = n }; positive = b } in
    let value : get_or values place true ≡ is_known known (make (place + 1) true) = truths place (omega (arith, over)) in
    let told : is_known known (make lit.var.0 true) ≡ lit.positive = bool_is lit.positive (is_known known (make lit.var.0 true))
    (λ is_true. ap (λ b. is_known known (make lit.var.0 b)) (sym is_true) ∙ is)
    (λ is_false. ap (λ b. is_known known (make lit.var.0 (Rattle.std.specs.Prelude.not b))) (sym is_false) ∙ signs lit is) in
    slice_get-get_or values place true (omega (arith, over, long)) ∙ ap (λ b. Some b) (value ∙ (ap (λ n. is_known known (make n true)) number ∙ told))

not_open : (known : List Lit) (lit : Lit) → IsTold known lit → IsOpen known lit → ⊥
not_open known lit (inl is) is_open = true_is_not_false (sym is ∙ is_open.0)
not_open known lit (inr is) is_open = true_is_not_false (sym is ∙ is_open.1)

-- a clause at rest is satisfied
pub satisfied : (vars : ℕ) (known : List Lit) (values : List Bool) (lits : List Lit) → ((l : Lit) → is_known known l ≡ true → is_known known (negated l) ≡ false) → IsFull vars known → AreTruths vars known values → length values ≡ vars → IsClause vars lits → IsAtRest known lits → Satisfies values lits
unfolding IsAtRest Satisfies
satisfied vars known values lits signs full truths long clause rest = elim rest [
  | inl some ↦
      let over : IsOver vars some.1 = All-contains (IsOver vars) lits some.1 clause.in_range (some.0, some.2, some.3) in
      (some.0, some.1, some.2, some.3, true_in vars known values some.1 signs truths long over some.4)
  | inr two ↦ absurd (not_open known two.one (full two.one (All-contains (IsOver vars) lits two.one clause.in_range two.one_stands)) two.one_open)
]

-- where no literal is open, each is told
pub full_of_none : (vars : ℕ) (known : List Lit) → ((lit : Lit) → IsOver vars lit → ¬ IsOpen known lit) → IsFull vars known
full_of_none vars known none lit over = elim (cases_Bool (is_known known lit)) [
  | inl is ↦ inl is
  | inr not_this ↦ elim (cases_Bool (is_known known (negated lit))) [
    | inl is ↦ inr is
    | inr not_that ↦ absurd (none lit over (not_this, not_that))
  ]
]
