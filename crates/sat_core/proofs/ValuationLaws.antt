-- Laws of valuations: a literal or its negation is true in one, and never both; a clause is satisfied, or all its literals are false.
use Rattle.std.proofs.Common.{◌≡◌, ℕ, zero, suc, ◌-◌, ◌<◌, Bool, true, false, not, ◌⊎◌, inl, inr, List, [], ◌∷◌, length, map, refl, sym, subst, arith}
use Rattle.std.specs.Prelude.{All, Some, slice_get}
use Rattle.std.proofs.lemmas.List.Elements.{All-nil, All-cons, All-head, All-tail}
use Rattle.sat_core.specs.declared.literal.Lit.{Lit}
use Rattle.sat_core.specs.Clauses.{negated, IsOver, IsTrueIn, Satisfies}
use Rattle.sat_core.specs.Hints.{is_same, is_known}
use Rattle.sat_core.proofs.LiteralLaws.{is_same-true}
use Rattle.sat_core.proofs.AnyLemmas.{Any-here, Any-there}

not_self : (b : Bool) → b ≡ not b → ⊥
not_self true same = cc
not_self false same = cc

-- a literal and its negation aren't both true
pub not_both : (values : List Bool) (lit : Lit) → IsTrueIn values lit → IsTrueIn values (negated lit) → ⊥
not_both values lit one other = not_self lit.positive (cc)

-- a known literal is true where all known literals are
pub known_is_true : (values : List Bool) (known : List Lit) (lit : Lit) → is_known known lit ≡ true → All (IsTrueIn values) known → IsTrueIn values lit
known_is_true values [] lit found all = absurd (cc)
known_is_true values (first ∷ known) lit found all =
    let case : (b : Bool) → is_same lit first ≡ b → IsTrueIn values lit = λ b. elim b as (λ b. is_same lit first ≡ b → IsTrueIn values lit) [
      | true ↦ λ same. subst (IsTrueIn values) (sym (is_same-true lit first same)) (All-head (IsTrueIn values) first known all)
      | false ↦ λ other. known_is_true values known lit (rw other at found) (All-tail (IsTrueIn values) first known all)
    ]
    in case (is_same lit first) refl

-- each of the variables has a value
pub value_at : (values : List Bool) (place : ℕ) → place < length values → (b : Bool) × (slice_get values place ≡ Some b)
value_at [] place within = absurd (omega arith)
value_at (b ∷ values) zero within = (b, refl)
value_at (b ∷ values) (suc place) within = value_at values place (omega arith)

-- a literal is true, or its negation is
pub lit_cases : (values : List Bool) (lit : Lit) → IsOver (length values) lit → IsTrueIn values lit ⊎ IsTrueIn values (negated lit)
lit_cases values lit over =
    let at = value_at values (lit.var.0 - 1) (omega arith) in
    let case : (b c : Bool) → slice_get values (lit.var.0 - 1) ≡ Some b → (slice_get values (lit.var.0 - 1) ≡ Some c) ⊎ (slice_get values (lit.var.0 - 1) ≡ Some (not c)) = λ b. elim b as (λ b. (c : Bool) → slice_get values (lit.var.0 - 1) ≡ Some b → (slice_get values (lit.var.0 - 1) ≡ Some c) ⊎ (slice_get values (lit.var.0 - 1) ≡ Some (not c))) [
      | true ↦ λ c. elim c as (λ c. slice_get values (lit.var.0 - 1) ≡ Some true → (slice_get values (lit.var.0 - 1) ≡ Some c) ⊎ (slice_get values (lit.var.0 - 1) ≡ Some (not c))) [ true ↦ λ is. inl is | false ↦ λ is. inr is ]
      | false ↦ λ c. elim c as (λ c. slice_get values (lit.var.0 - 1) ≡ Some false → (slice_get values (lit.var.0 - 1) ≡ Some c) ⊎ (slice_get values (lit.var.0 - 1) ≡ Some (not c))) [ true ↦ λ is. inr is | false ↦ λ is. inl is ]
    ]
    in case at.0 lit.positive at.1

-- a clause is satisfied, or all its literals are false
pub clause_cases : (values : List Bool) (lits : List Lit) → All (IsOver (length values)) lits → Satisfies values lits ⊎ All (IsTrueIn values) (map negated lits)
unfolding Satisfies
clause_cases values [] over = inr (All-nil (IsTrueIn values))
clause_cases values (lit ∷ lits) over = elim (lit_cases values lit (All-head (IsOver (length values)) lit lits over)) [
  | inl holds ↦ inl (Any-here (IsTrueIn values) lit lits holds)
  | inr fails ↦ elim (clause_cases values lits (All-tail (IsOver (length values)) lit lits over)) [
    | inl satisfied ↦ inl (Any-there (IsTrueIn values) lit lits satisfied)
    | inr others ↦ inr (All-cons (IsTrueIn values) (negated lit) (map negated lits) fails others)
  ]
]
