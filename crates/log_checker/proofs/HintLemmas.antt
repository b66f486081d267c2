-- Laws of what one clause tells.
use Rattle.std.proofs.Common.{◌≡◌, ℕ, ◌+◌, ◌<◌, ◌≤◌, Bool, true, false, cond, not, ◌&&◌, ◌||◌, refl, List, [], ◌∷◌, ◌++◌, length, take, drop, get_or, ap, sym, ◌∙◌}
use Rattle.std.specs.Prelude.{Option, Some, None, is_some, All, filter}
use Rattle.std.specs.Option.{option_to_list}
use Rattle.std.proofs.lemmas.Bool.{and_parts}
use Rattle.std.proofs.lemmas.List.{take-append-drop, drop_more, take_all}
use Rattle.std.proofs.lemmas.List.Elements.{filter-append, All-filter, All-head, All-same}
use Rattle.sat_core.specs.declared.literal.Lit.{Lit}
use Rattle.sat_core.specs.declared.step_fault.StepFault.TheVariants.{HintNotUnit}
use Rattle.sat_core.specs.Clauses.{negated, IsOver}
use Rattle.sat_core.specs.Hints.{is_known, not_false, fault, outcome_by}
use Rattle.sat_core.proofs.HintLaws.{is_known-filter}
use Rattle.sat_core.proofs.LiteralLaws.{is_same-refl}

-- a second literal that isn't false
pub two_not_false : (known lits : List Lit) (place : ℕ) (d : Lit) (remaining : Option Lit) → place < length lits → not_false known (take place lits) ≡ option_to_list remaining → is_some remaining ≡ true → is_known known (negated (get_or lits place d)) ≡ false → fault HintNotUnit ≡ outcome_by known (not_false known lits)
two_not_false known lits place d None within front never second = absurd (cc)
two_not_false known lits place d (Some one) within front some second =
    let test : Lit → Bool = λ lit. not (is_known known (negated lit)) in
    let split : take place lits ++ drop place lits ≡ lits = take-append-drop place lits in
    let behind : filter test (drop place lits) ≡ get_or lits place d ∷ filter test (drop (place + 1) lits) = ap (filter test) (drop_more lits place d within) ∙ ap (λ b. cond (not b) (get_or lits place d ∷ filter test (drop (place + 1) lits)) (filter test (drop (place + 1) lits))) second in
    let all : filter test lits ≡ one ∷ get_or lits place d ∷ filter test (drop (place + 1) lits) = ap (filter test) (sym split) ∙ (filter-append test (take place lits) (drop place lits) ∙ (ap (λ xs. xs ++ filter test (drop place lits)) front ∙ ap (λ xs. one ∷ xs) behind)) in
    sym (ap (outcome_by known) all)

-- the one literal that isn't false is one of the clause
pub one_in_range : (vars : ℕ) (known lits : List Lit) (place : ℕ) (lit : Lit) → All (IsOver vars) lits → length lits ≤ place → not_false known (take place lits) ≡ option_to_list (Some lit) → IsOver vars lit
one_in_range vars known lits place lit over all one =
    let test : Lit → Bool = λ lit. not (is_known known (negated lit)) in
    let whole : filter test lits ≡ lit ∷ [] = ap (filter test) (sym (take_all place lits all)) ∙ one in
    All-head (IsOver vars) lit [] (All-same (IsOver vars) (lit ∷ []) (filter test lits) (sym whole) (All-filter test (IsOver vars) lits over))

-- and its negation isn't known
pub one_not_false : (known lits : List Lit) (place : ℕ) (lit : Lit) → not_false known (take place lits) ≡ option_to_list (Some lit) → is_known known (negated lit) ≡ false
one_not_false known lits place lit one =
    let test : Lit → Bool = λ lit. not (is_known known (negated lit)) in
    let stands : is_known (lit ∷ []) lit ≡ true = or_true (is_same-refl lit) in
    let both : (is_known (take place lits) lit && test lit) ≡ true = sym (is_known-filter test (take place lits) lit) ∙ (ap (λ (kept : List Lit). is_known kept lit) one ∙ stands) in
    was_false (is_known known (negated lit)) (and_parts (is_known (take place lits) lit) (test lit) both).1
  where
    or_true : {b : Bool} → b ≡ true → (b || false) ≡ true
    or_true {b} is = ap (λ c. c || false) is

    was_false : (b : Bool) → not b ≡ true → b ≡ false
    was_false true never = cc
    was_false false is = refl
