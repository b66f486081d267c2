-- Laws of open literals: their variables stand nowhere among the known ones, which are fewer than all.
use Rattle.std.proofs.Common.{◌≡◌, ◌≢◌, ℕ, ◌-◌, ◌<◌, ◌≤◌, Bool, true, false, not, ◌⊎◌, inl, inr, List, [], ◌∷◌, ◌++◌, length, map, get_or, refl, ap, sym, subst, ◌∙◌, arith}
use Rattle.std.specs.Prelude.{All, AllPairs}
use lib.Dec.{eqb}
use Rattle.std.proofs.lemmas.Bool.{eqb-true}
use Rattle.std.proofs.lemmas.List.{length_push, get_or_default, length-map, get_or-map}
use Rattle.std.proofs.lemmas.List.Elements.{All-push}
use Rattle.std.proofs.lemmas.List.Quantifiers.{all_pairs_push}
use Rattle.std.proofs.lemmas.List.Folds.{list_any_at, list_any_none, Any-from_list_any}
use Rattle.std.proofs.lemmas.Map.Keys.{IsDistinct-from_apart}
use Rattle.std.proofs.lemmas.Map.Steps.{length-le_from_distinct_below}
use Rattle.sat_core.specs.declared.literal.Lit.{Lit}
use Rattle.sat_core.specs.Clauses.{negated, IsOver, HasNoVariableTwice}
use Rattle.sat_core.specs.Hints.{is_same, is_known}
use Rattle.sat_core.specs.Fresh.{IsOpen}
use Rattle.sat_core.proofs.LiteralLaws.{is_same-true, is_same-refl}

-- literals of different variables differ
pub is_same-apart : (one other : Lit) → one.var.0 ≢ other.var.0 → is_same one other ≡ false
is_same-apart one other apart = elim (is_same one other) as (λ b. is_same one other ≡ b → b ≡ false) [
  | true ↦ λ same. absurd (apart (ap (λ l. l.var.0) (is_same-true one other same)))
  | false ↦ λ _. refl
] refl

sign_cases : (b c : Bool) → (b ≡ c) ⊎ (b ≡ not c)
sign_cases true true = inl refl
sign_cases true false = inr refl
sign_cases false true = inr refl
sign_cases false false = inl refl

-- literals of one variable are the same, or negations of each other
pub one_variable : (one other : Lit) → one.var.0 ≡ other.var.0 → (one ≡ other) ⊎ (one ≡ negated other)
one_variable one other same =
    let make : ℕ → Bool → Lit = λ n b. record { var = record { 0 = n }; positive = b } in
    elim (sign_cases one.positive other.positive) [
      | inl signs ↦ inl (ap (λ n. make n one.positive) same ∙ ap (make other.var.0) signs)
      | inr signs ↦ inr (ap (λ n. make n one.positive) same ∙ ap (make other.var.0) signs)
    ]

-- each literal of the list is known
pub is_known-at : (known : List Lit) (k : ℕ) (d : Lit) → k < length known → is_known known (get_or known k d) ≡ true
is_known-at known k d within = list_any_at (is_same (get_or known k d)) known k d within (is_same-refl (get_or known k d))

-- what is known stands somewhere
pub place_of_known : (known : List Lit) (lit : Lit) → is_known known lit ≡ true → (k : ℕ) × (k < length known) × ((d : Lit) → get_or known k d ≡ lit)
place_of_known known lit found =
    let any = Any-from_list_any (is_same lit) known found in
    (any.0, any.2, λ d. get_or_default known any.0 d any.1 any.2 ∙ (any.3 ∙ sym (is_same-true lit any.1 any.4)))

pub unknown_variable : (known : List Lit) (lit : Lit) → All (λ l. l.var.0 ≢ lit.var.0) known → is_known known lit ≡ false
unknown_variable known lit apart = list_any_none (is_same lit) known (λ k d within. is_same-apart lit (get_or known k d) (λ same. apart k d within (sym same)))

pub true_is_not_false : true ≡ false → ⊥
true_is_not_false same = cc

-- an open literal's variable stands nowhere
pub open_apart : (known : List Lit) (lit : Lit) → IsOpen known lit → All (λ l. l.var.0 ≢ lit.var.0) known
open_apart known lit is_open k d within same = elim (one_variable (get_or known k d) lit same) [
  | inl is ↦ true_is_not_false (sym (subst (λ l. is_known known l ≡ true) is (is_known-at known k d within)) ∙ is_open.0)
  | inr is ↦ true_is_not_false (sym (subst (λ l. is_known known l ≡ true) is (is_known-at known k d within)) ∙ is_open.1)
]

pub NoVariableTwice-push : (known : List Lit) (lit : Lit) → HasNoVariableTwice known → IsOpen known lit → HasNoVariableTwice (known ++ lit ∷ [])
NoVariableTwice-push known lit none is_open = all_pairs_push (λ one other. one.var.0 ≢ other.var.0) known lit none (open_apart known lit is_open)

-- numbers below n that differ are at most n
pub distinct_below : (xs : List ℕ) (n : ℕ) → AllPairs (λ a b. a ≢ b) xs → All (λ x. x < n) xs → length xs ≤ n
distinct_below xs n apart below =
    length-le_from_distinct_below xs n
    (IsDistinct-from_apart eqb xs (λ i j d low high. elim (eqb (get_or xs i d) (get_or xs j d)) as (λ b. eqb (get_or xs i d) (get_or xs j d) ≡ b → b ≡ false) [
      | true ↦ λ same. absurd (apart i j d low high (eqb-true (get_or xs i d) (get_or xs j d) same))
      | false ↦ λ _. refl
    ] refl))
    (λ q found. let any = Any-from_list_any (eqb q) xs found in
    let here : get_or xs any.0 any.1 < n = below any.0 any.1 any.2 in
    let is : q ≡ any.1 = eqb-true q any.1 any.4 in
    omega (arith, any.3, here, is))

-- literals of which no two have one variable are at most as many as the variables
pub length-no_variable_twice : (vars : ℕ) (lits : List Lit) → All (IsOver vars) lits → HasNoVariableTwice lits → length lits ≤ vars
length-no_variable_twice vars lits over none =
    let place : Lit → ℕ = λ lit. lit.var.0 - 1 in
    let d0 : Lit = record { var = record { 0 = 0 }; positive = true } in
    let within : (k : ℕ) → k < length (map place lits) → k < length lits = λ k below. omega (arith, length-map lits place) in
    let at : (k : ℕ) (d : ℕ) → k < length (map place lits) → get_or (map place lits) k d ≡ place (get_or lits k d0) = λ k d below. get_or-map place lits k d0 d (within k below) in
    let fewer : length (map place lits) ≤ vars = distinct_below (map place lits) vars
    (λ i j d low high same.
    let one : IsOver vars (get_or lits i d0) = over i d0 (omega (arith, within j high)) in
    let other : IsOver vars (get_or lits j d0) = over j d0 (within j high) in
    none i j d0 low (within j high) (let e : place (get_or lits i d0) ≡ place (get_or lits j d0) = sym (at i d (omega arith)) ∙ (same ∙ at j d high) in omega (arith, one, other, e)))
    (λ k d below. let here : IsOver vars (get_or lits k d0) = over k d0 (within k below) in omega (arith, at k d below, here)) in
    omega (arith, length-map lits place)

-- known literals leave room for one more where that is open
pub open_room : (vars : ℕ) (known : List Lit) (lit : Lit) → All (IsOver vars) known → HasNoVariableTwice known → IsOver vars lit → IsOpen known lit → length known < vars
open_room vars known lit all none over is_open =
    let more : length (known ++ lit ∷ []) ≤ vars = length-no_variable_twice vars (known ++ lit ∷ []) (All-push (IsOver vars) known lit all over) (NoVariableTwice-push known lit none is_open) in
    omega (arith, length_push known lit)
