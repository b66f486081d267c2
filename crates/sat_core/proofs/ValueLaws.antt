-- Laws of literals that have a value because the negations of a clause's literals are known.
use Rattle.std.proofs.Common.{◌≡◌, ◌≢◌, ℕ, ◌+◌, ◌<◌, Bool, true, false, cond, not, ◌&&◌, ◌||◌, List, [], ◌∷◌, map, length, take, get_or, refl, ap, sym, ◌∙◌, arith}
use Rattle.std.specs.Prelude.{nat_eq}
use Rattle.std.specs.List.{list_any}
use Rattle.std.proofs.lemmas.Bool.{eqb-true, eq-eqb}
use Rattle.std.proofs.lemmas.List.{take_more, get_or-take, length-take-le, get_or_default}
use Rattle.std.proofs.lemmas.List.Folds.{Any-from_list_any, list_any_at}
use Rattle.std.proofs.lemmas.List.Quantifiers.{all_pairs_push}
use Rattle.sat_core.specs.declared.literal.Lit.{Lit}
use Rattle.sat_core.specs.Clauses.{negated, HasNoVariableTwice}
use Rattle.sat_core.specs.Hints.{is_same, is_known}

true_is_not_false : true ≡ false → ⊥
true_is_not_false same = cc

-- a literal or its negation is the negation of another where both have the same variable
same_variable : (b p q : Bool) → ((b && cond p (not q) (not (not q))) || (b && cond (not p) (not q) (not (not q)))) ≡ b
same_variable true true true = refl
same_variable true true false = refl
same_variable true false true = refl
same_variable true false false = refl
same_variable false p q = refl

regroup : (a b c d : Bool) → ((a || b) || (c || d)) ≡ ((a || c) || (b || d))
regroup true b c d = refl
regroup false true true d = refl
regroup false true false d = refl
regroup false false c d = refl

-- whether one of the literals has the variable
abbrev pub has_variable : List Lit → Lit → Bool
has_variable lits lit = list_any (λ other. nat_eq lit.var.0 other.var.0) lits

-- where the negations of some literals are known, a literal has a value exactly if one of them has its variable
pub has_value_is : (lits : List Lit) (lit : Lit) → (is_known (map negated lits) lit || is_known (map negated lits) (negated lit)) ≡ has_variable lits lit
has_value_is [] lit = refl
has_value_is (other ∷ lits) lit =
    regroup (is_same lit (negated other)) (is_known (map negated lits) lit) (is_same (negated lit) (negated other)) (is_known (map negated lits) (negated lit))
    ∙ (ap (λ b. b || (is_known (map negated lits) lit || is_known (map negated lits) (negated lit))) (same_variable (nat_eq lit.var.0 other.var.0) lit.positive other.positive)
    ∙ ap (λ b. nat_eq lit.var.0 other.var.0 || b) (has_value_is lits lit))

none_has : (lits : List Lit) (lit : Lit) → has_variable lits lit ≡ false → (k : ℕ) (d : Lit) → k < length lits → (get_or lits k d).var.0 ≢ lit.var.0
none_has lits lit none k d within same = true_is_not_false (sym (list_any_at (λ other. nat_eq lit.var.0 other.var.0) lits k d within (eq-eqb lit.var.0 (get_or lits k d).var.0 (sym same))) ∙ none)

-- one literal more
pub NoVariableTwice-more : (lits : List Lit) (place : ℕ) (d : Lit) → place < length lits → HasNoVariableTwice (take place lits) → has_variable (take place lits) (get_or lits place d) ≡ false → HasNoVariableTwice (take (place + 1) lits)
NoVariableTwice-more lits place d within before none = rw (take_more lits place d within) (all_pairs_push (λ one other. one.var.0 ≢ other.var.0) (take place lits) (get_or lits place d) before (none_has (take place lits) (get_or lits place d) none))

pub VariableTwice : (lits : List Lit) (place : ℕ) (d : Lit) → place < length lits → has_variable (take place lits) (get_or lits place d) ≡ true → ¬ HasNoVariableTwice lits
VariableTwice lits place d within has none =
    let found = Any-from_list_any (λ other. nat_eq (get_or lits place d).var.0 other.var.0) (take place lits) has in
    let front : length (take place lits) ≡ place = length-take-le place lits (omega arith) in
    let earlier : found.0 < place = omega (arith, found.2) in
    let same : (get_or lits place d).var.0 ≡ found.1.var.0 = eqb-true (get_or lits place d).var.0 found.1.var.0 found.4 in
    let is : get_or lits found.0 d ≡ found.1 = get_or_default lits found.0 d found.1 (omega arith) ∙ (sym (get_or-take place lits found.0 found.1 earlier) ∙ found.3) in
    none found.0 place d earlier within (ap (λ lit. lit.var.0) is ∙ sym same)
