-- Laws of `is_same` and `is_known`, which proofs about steps in every crate need.
use Rattle.std.proofs.Common.{◌≡◌, ℕ, Bool, true, false, cond, not, ◌&&◌, ◌||◌, List, [], ◌∷◌, ◌++◌, refl, ap, ◌∙◌}
use Rattle.std.specs.Prelude.{nat_eq}
use Rattle.std.proofs.lemmas.Bool.{eqb-true, eq-eqb, and_parts}
use Rattle.std.proofs.lemmas.List.Folds.{list_any-append}
use Rattle.std.proofs.Math.Bool.{or-false}
use Rattle.sat_core.specs.declared.literal.Lit.{Lit}
use Rattle.sat_core.specs.Clauses.{negated}
use Rattle.sat_core.specs.Hints.{is_same, is_known}

bool_same : (b c : Bool) → cond b c (not c) ≡ true → b ≡ c
bool_same true true same = refl
bool_same true false same = cc
bool_same false true same = cc
bool_same false false same = refl

-- literals that the test finds the same are equal, and each is the same as itself
pub is_same-true : (one other : Lit) → is_same one other ≡ true → one ≡ other
is_same-true one other same =
    let parts = and_parts (nat_eq one.var.0 other.var.0) (cond one.positive other.positive (not other.positive)) same in
    let numbers : one.var.0 ≡ other.var.0 = eqb-true one.var.0 other.var.0 parts.0 in
    let signs : one.positive ≡ other.positive = bool_same one.positive other.positive parts.1 in
    let make : ℕ → Bool → Lit = λ n b. record { var = record { 0 = n }; positive = b } in
    ap (λ n. make n one.positive) numbers ∙ ap (make other.var.0) signs

bool_is_same : (b : Bool) → cond b b (not b) ≡ true
bool_is_same true = refl
bool_is_same false = refl

pub is_same-refl : (lit : Lit) → is_same lit lit ≡ true
is_same-refl lit = ap (λ b. b && cond lit.positive lit.positive (not lit.positive)) (eq-eqb lit.var.0 lit.var.0 refl) ∙ bool_is_same lit.positive

not_twice : (b : Bool) → not (not b) ≡ b
not_twice true = refl
not_twice false = refl

pub negated-negated : (lit : Lit) → negated (negated lit) ≡ lit
negated-negated lit = let make : Bool → Lit = λ b. record { var = lit.var; positive = b } in ap make (not_twice lit.positive)

-- one known literal more
pub is_known-push : (known : List Lit) (added lit : Lit) → is_known (known ++ added ∷ []) lit ≡ (is_known known lit || is_same lit added)
is_known-push known added lit = list_any-append (is_same lit) known (added ∷ []) ∙ ap (λ b. is_known known lit || b) (or-false (is_same lit added))
