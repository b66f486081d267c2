-- How a valuation satisfies single clauses.
use Rattle.std.proofs.Common.{◌≡◌, ℕ, zero, suc, ◌-◌, Bool, true, false, List, [], ◌∷◌, ◌++◌, map, refl, sym, ap, ◌∙◌, subst, ⊎_elim, arith, Some}
use Rattle.std.specs.Prelude.{Contains, ◌||◌}
use Rattle.std.specs.List.{flat_map}
use Rattle.std.proofs.lemmas.List.Elements.{All-append, All-nil}
use Rattle.std.proofs.lemmas.Option.{slice_get-get_or}
use Rattle.std.proofs.lemmas.Bool.{cases_Bool, false≢true}
use Rattle.sat_core.specs.declared.literal.Lit.{Lit}
use Rattle.sat_core.specs.Clauses.{Satisfies, SatisfiesAll, IsTrueIn}
use Rattle.clause_list.specs.Numbers.{is, is_not}
use Rattle.clause_list.specs.RunClauses.{where_}
use Rattle.plan_values.specs.Meanings.{Is}

-- one of two tests
pub this_one : (b c : Bool) → b ≡ true → (b || c) ≡ true
this_one true c h = refl
this_one false c h = absurd (false≢true h)

pub other_one : (b c : Bool) → c ≡ true → (b || c) ≡ true
other_one true c h = refl
other_one false c h = h

pub make_true : (values : List Bool) (v : ℕ) (truth : Bool) → Is values v truth → truth ≡ true → IsTrueIn values (is v)
make_true values v truth mean holds = slice_get-get_or values (v - 1) false mean.within ∙ ap (λ b. Some b) (mean.is ∙ holds)

pub make_false : (values : List Bool) (v : ℕ) (truth : Bool) → Is values v truth → truth ≡ false → IsTrueIn values (is_not v)
make_false values v truth mean holds = slice_get-get_or values (v - 1) false mean.within ∙ ap (λ b. Some b) (mean.is ∙ holds)

pub here : (values : List Bool) (lit : Lit) (lits : List Lit) → IsTrueIn values lit → Satisfies values (lit ∷ lits)
unfolding Satisfies
here values lit lits holds = (0, lit, omega arith, refl, holds)

pub later : (values : List Bool) (lit : Lit) (lits : List Lit) → Satisfies values lits → Satisfies values (lit ∷ lits)
unfolding Satisfies
later values lit lits (k, l, within, same, holds) = (suc k, l, omega arith, same, holds)

pub in_front : (values : List Bool) (xs ys : List Lit) → Satisfies values xs → Satisfies values (xs ++ ys)
unfolding Satisfies
in_front values [] ys (k, l, within, same, holds) = absurd (omega arith)
in_front values (x ∷ xs) ys (zero, l, within, same, holds) = (0, l, omega arith, same, holds)
in_front values (x ∷ xs) ys (suc k, l, within, same, holds) = let (j, m, inside, is, true_one) = in_front values xs ys (k, l, omega arith, same, holds) in (suc j, m, omega arith, is, true_one)

pub behind : (values : List Bool) (xs ys : List Lit) → Satisfies values ys → Satisfies values (xs ++ ys)
behind values [] ys some = some
behind values (x ∷ xs) ys some = later values x (xs ++ ys) (behind values xs ys some)

-- one of the variables of the items is true
pub make_any : {X : Type 0} (values : List Bool) (number : X → ℕ) (items : List X) (v : X) → Contains items v → IsTrueIn values (is (number v)) → Satisfies values (map (λ x. is (number x)) items)
make_any values number [] v (k, within, same) holds = absurd (omega arith)
make_any values number (x ∷ xs) v (zero, within, same) holds = here values (is (number x)) (map (λ x. is (number x)) xs) (subst (λ u. IsTrueIn values (is (number u))) (sym same) holds)
make_any values number (x ∷ xs) v (suc k, within, same) holds = later values (is (number x)) (map (λ x. is (number x)) xs) (make_any values number xs v (k, omega arith, same) holds)

-- the clauses of each item are satisfied
pub make_each : {X : Type 0} (values : List Bool) (of : X → List (List Lit)) (xs : List X) → ((x : X) → Contains xs x → SatisfiesAll values (of x)) → SatisfiesAll values (flat_map of xs)
make_each values of [] each = All-nil (Satisfies values)
make_each values of (x ∷ xs) each = All-append (Satisfies values) (of x) (flat_map of xs) (each x (0, omega arith, refl)) (make_each values of xs (λ y inside. let (k, within, same) = inside in each y (suc k, omega arith, same)))

pub make_one : (values : List Bool) (clause : List Lit) → Satisfies values clause → SatisfiesAll values (clause ∷ [])
make_one values clause some zero d within = some
make_one values clause some (suc k) d within = absurd (omega arith)

pub make_where : (values : List Bool) (test : Bool) (lit : Lit) → test ≡ true → IsTrueIn values lit → Satisfies values (where_ test lit)
make_where values true lit passes holds = here values lit [] holds
make_where values false lit passes holds = absurd (false≢true passes)

-- one of two variables is false, or the one is false or the other true
pub not_both : (values : List Bool) (v w : ℕ) (one other : Bool) → Is values v one → Is values w other → (one ≡ true → other ≡ false) → Satisfies values (is_not v ∷ is_not w ∷ [])
not_both values v w one other mean mean_too excludes = ⊎_elim
    (λ holds. later values (is_not v) (is_not w ∷ []) (here values (is_not w) [] (make_false values w other mean_too (excludes holds))))
    (λ fails. here values (is_not v) (is_not w ∷ []) (make_false values v one mean fails))
    (cases_Bool one)

pub one_makes : (values : List Bool) (v w : ℕ) (one other : Bool) → Is values v one → Is values w other → (one ≡ true → other ≡ true) → Satisfies values (is_not v ∷ is w ∷ [])
one_makes values v w one other mean mean_too makes = ⊎_elim
    (λ holds. later values (is_not v) (is w ∷ []) (here values (is w) [] (make_true values w other mean_too (makes holds))))
    (λ fails. here values (is_not v) (is w ∷ []) (make_false values v one mean fails))
    (cases_Bool one)
