-- What a satisfying valuation says of single clauses.
use Rattle.std.proofs.Common.{◌≡◌, ℕ, zero, suc, ◌+◌, ◌-◌, ◌<◌, ◌≤◌, Bool, true, false, List, [], ◌∷◌, ◌++◌, length, map, refl, sym, ◌∙◌, subst, inl, inr, ⊎_elim, ◌⊎◌, arith, length-append}
use Rattle.std.specs.Prelude.{All, Contains}
use Rattle.std.specs.List.{flat_map}
use Rattle.std.proofs.lemmas.List.{get_or_append_left, get_or-append-add}
use Rattle.std.proofs.lemmas.Option.{get_or_from_slice_get}
use Rattle.std.proofs.lemmas.Bool.{false≢true}
use Rattle.std.proofs.lemmas.List.Elements.{All-head}
use Rattle.sat_core.specs.declared.literal.Lit.{Lit}
use Rattle.sat_core.specs.Clauses.{Satisfies, SatisfiesAll, IsTrueIn}
use Rattle.clause_list.specs.Ranges.{from_below}
use Rattle.clause_list.specs.Numbers.{is, is_not}
use Rattle.clause_list.specs.RunClauses.{where_}
use Rattle.clause_list.specs.Values.{value}
use Rattle.clause_list.proofs.ListLaws.{in_range}

pub sat_head : (values : List Bool) (clause : List Lit) (clauses : List (List Lit)) → SatisfiesAll values (clause ∷ clauses) → Satisfies values clause
sat_head values clause clauses all = All-head (Satisfies values) clause clauses all

-- a clause of one literal and others: the literal is true, or the clause of the others is satisfied
pub sat_cases : (values : List Bool) (lit : Lit) (lits : List Lit) → Satisfies values (lit ∷ lits) → IsTrueIn values lit ⊎ Satisfies values lits
unfolding Satisfies
sat_cases values lit lits (zero, l, within, same, holds) = inl (subst (IsTrueIn values) (sym same) holds)
sat_cases values lit lits (suc k, l, within, same, holds) = inr (k, l, omega arith, same, holds)

pub sat_none : (values : List Bool) → ¬ Satisfies values []
unfolding Satisfies
sat_none values (k, l, within, same, holds) = omega arith

pub true_value : (values : List Bool) (v : ℕ) → IsTrueIn values (is v) → value values v ≡ true
true_value values v holds = get_or_from_slice_get values (v - 1) true false holds

pub false_value : (values : List Bool) (v : ℕ) → IsTrueIn values (is_not v) → value values v ≡ false
false_value values v holds = get_or_from_slice_get values (v - 1) false false holds

all_front : {X : Type 0} (P : X → Type 0) (xs ys : List X) → All P (xs ++ ys) → All P xs
all_front P xs ys all k d within = subst P (get_or_append_left xs ys d k within) (all k d (omega (arith, length-append xs ys)))

all_back : {X : Type 0} (P : X → Type 0) (xs ys : List X) → All P (xs ++ ys) → All P ys
all_back P xs ys all k d within = subst P (get_or-append-add xs ys k d) (all (length xs + k) d (omega (arith, length-append xs ys)))

-- the clauses of both lists, and those of one item
pub sat_front : (values : List Bool) (xs ys : List (List Lit)) → SatisfiesAll values (xs ++ ys) → SatisfiesAll values xs
sat_front values xs ys all = all_front (Satisfies values) xs ys all

pub sat_back : (values : List Bool) (xs ys : List (List Lit)) → SatisfiesAll values (xs ++ ys) → SatisfiesAll values ys
sat_back values xs ys all = all_back (Satisfies values) xs ys all

pub sat_each : {X : Type 0} (values : List Bool) (of : X → List (List Lit)) (xs : List X) (x : X) → SatisfiesAll values (flat_map of xs) → Contains xs x → SatisfiesAll values (of x)
sat_each values of [] x all (k, within, same) = absurd (omega arith)
sat_each values of (y ∷ ys) x all (zero, within, same) = subst (λ z. SatisfiesAll values (of z)) same (sat_front values (of y) (flat_map of ys) all)
sat_each values of (y ∷ ys) x all (suc k, within, same) = sat_each values of ys x (sat_back values (of y) (flat_map of ys) all) (k, omega arith, same)

pub sat_range : (values : List Bool) (of : ℕ → List (List Lit)) (from end t : ℕ) → SatisfiesAll values (flat_map of (from_below from end)) → from ≤ t → t < end → SatisfiesAll values (of t)
sat_range values of from end t all h k = sat_each values of (from_below from end) t all (in_range from end t h k)

-- one of the variables of the items is true
pub sat_any : {X : Type 0} (values : List Bool) (number : X → ℕ) (items : List X) → Satisfies values (map (λ v. is (number v)) items) → (v : X) × Contains items v × (value values (number v) ≡ true)
sat_any values number [] some = absurd (sat_none values some)
sat_any values number (x ∷ xs) some = ⊎_elim
    (λ here. (x, (0, omega arith, refl), true_value values (number x) here))
    (λ later. let (v, (k, within, same), holds) = sat_any values number xs later in (v, (suc k, omega arith, same), holds))
    (sat_cases values (is (number x)) (map (λ v. is (number v)) xs) some)

pub sat_append : (values : List Bool) (xs ys : List Lit) → Satisfies values (xs ++ ys) → Satisfies values xs ⊎ Satisfies values ys
unfolding Satisfies
sat_append values [] ys some = inr some
sat_append values (x ∷ xs) ys some = ⊎_elim
    (λ here. inl (0, x, omega arith, refl, here))
    (λ later. ⊎_elim (λ front. let (k, l, within, same, holds) = front in inl (suc k, l, omega arith, same, holds)) (λ back. inr back) (sat_append values xs ys later))
    (sat_cases values x (xs ++ ys) some)

pub sat_where : (values : List Bool) (test : Bool) (lit : Lit) → Satisfies values (where_ test lit) → (test ≡ true) × IsTrueIn values lit
sat_where values true lit some = (refl, ⊎_elim (λ here. here) (λ later. absurd (sat_none values later)) (sat_cases values lit [] some))
sat_where values false lit some = absurd (sat_none values some)

-- a clause that says that two variables are not both true
pub sat_not_both : (values : List Bool) (v w : ℕ) → Satisfies values (is_not v ∷ is_not w ∷ []) → value values v ≡ true → value values w ≡ true → ⊥
sat_not_both values v w some one other = ⊎_elim
    (λ h. false≢true (sym (false_value values v h) ∙ one))
    (λ rest. ⊎_elim (λ h. false≢true (sym (false_value values w h) ∙ other)) (λ none. sat_none values none) (sat_cases values (is_not w) [] rest))
    (sat_cases values (is_not v) (is_not w ∷ []) some)

-- a clause that says that one variable is true if the other is
pub sat_implies : (values : List Bool) (v w : ℕ) → Satisfies values (is_not v ∷ is w ∷ []) → value values v ≡ true → value values w ≡ true
sat_implies values v w some one = ⊎_elim
    (λ h. absurd (false≢true (sym (false_value values v h) ∙ one)))
    (λ rest. ⊎_elim (λ h. true_value values w h) (λ none. absurd (sat_none values none)) (sat_cases values (is w) [] rest))
    (sat_cases values (is_not v) (is w ∷ []) some)

-- what a clause whose first literal is false says
pub sat_rest : (values : List Bool) (v : ℕ) (lits : List Lit) → Satisfies values (is_not v ∷ lits) → value values v ≡ true → Satisfies values lits
sat_rest values v lits some one = ⊎_elim (λ h. absurd (false≢true (sym (false_value values v h) ∙ one))) (λ rest. rest) (sat_cases values (is_not v) lits some)
