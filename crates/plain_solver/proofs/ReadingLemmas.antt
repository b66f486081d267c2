-- What the literals of a clause tell, as they are read one by one.
use Rattle.std.proofs.Common.{◌≡◌, ◌≢◌, ℕ, ◌+◌, ◌<◌, ◌≤◌, true, false, inl, inr, List, [], ◌∷◌, ◌++◌, length, take, get_or, refl, ap, sym, subst, ◌∙◌, arith}
use Rattle.std.specs.Prelude.{Contains, Option, Some, None, is_some}
use Rattle.std.proofs.lemmas.List.{get_or_default, get_or-take, length-take-le, take_more, take_all}
use Rattle.std.proofs.lemmas.List.Elements.{All-more, Contains-append_left, Contains-push}
use Rattle.sat_core.specs.declared.literal.Lit.{Lit}
use Rattle.sat_core.specs.Clauses.{negated, HasNoVariableTwice}
use Rattle.sat_core.specs.Hints.{is_known}
use Rattle.sat_core.specs.Fresh.{IsOpen, IsAtRest}
use Rattle.plain_solver.specs.Plain.{SoFar}

lits_here : (lits : List Lit) (k : ℕ) (d : Lit) → k < length lits → Contains lits (get_or lits k d)
lits_here lits k d within = (k, within, get_or_default lits k (get_or lits k d) d within)

-- a false literal more
pub so_far_false : (known lits : List Lit) (k : ℕ) (d : Lit) (free : Option Lit) → k < length lits → is_known known (negated (get_or lits k d)) ≡ true → SoFar known (take k lits) free → SoFar known (take (k + 1) lits) free
so_far_false known lits k d None within false_now so_far = All-more (λ lit. is_known known (negated lit) ≡ true) lits k d within so_far false_now
so_far_false known lits k d (Some one) within false_now so_far =
    let more : take (k + 1) lits ≡ take k lits ++ get_or lits k d ∷ [] = take_more lits k d within in
    record {
      stands = subst (λ ls. Contains ls one) (sym more) (Contains-append_left (take k lits) (get_or lits k d ∷ []) one so_far.stands);
      open_lit = so_far.open_lit;
      others_false = All-more (λ other. other ≢ one → is_known known (negated other) ≡ true) lits k d within so_far.others_false (λ _. false_now);
    }

-- the first open literal
pub so_far_open : (known lits : List Lit) (k : ℕ) (d : Lit) → k < length lits → IsOpen known (get_or lits k d) → SoFar known (take k lits) None → SoFar known (take (k + 1) lits) (Some (get_or lits k d))
so_far_open known lits k d within is_open so_far =
    let more : take (k + 1) lits ≡ take k lits ++ get_or lits k d ∷ [] = take_more lits k d within in
    record {
      stands = subst (λ ls. Contains ls (get_or lits k d)) (sym more) (Contains-push (take k lits) (get_or lits k d));
      open_lit = is_open;
      others_false = All-more (λ other. other ≢ get_or lits k d → is_known known (negated other) ≡ true) lits k d within (λ j e inside apart. so_far j e inside) (λ apart. absurd (apart refl));
    }

-- a second one
pub so_far_two : (known lits : List Lit) (k : ℕ) (d one : Lit) → HasNoVariableTwice lits → k < length lits → IsOpen known (get_or lits k d) → SoFar known (take k lits) (Some one) → IsAtRest known lits
unfolding IsAtRest
so_far_two known lits k d one distinct within is_open so_far =
    let front : length (take k lits) ≡ k = length-take-le k lits (omega arith) in
    let place : ℕ = so_far.stands.0 in
    let inside : place < k = omega (arith, so_far.stands.1) in
    let is : get_or lits place one ≡ one = sym (get_or-take k lits place one inside) ∙ so_far.stands.2 in
    inr (record {
      one = one;
      other = get_or lits k d;
      one_stands = (place, omega arith, is);
      other_stands = lits_here lits k d within;
      different = λ same. distinct place k one inside within (ap (λ l. l.var.0) (is ∙ (same ∙ get_or_default lits k d one within)));
      one_open = so_far.open_lit;
      other_open = is_open;
    })

pub so_far_true : (known lits : List Lit) (k : ℕ) (d : Lit) → k < length lits → is_known known (get_or lits k d) ≡ true → IsAtRest known lits
unfolding IsAtRest
so_far_true known lits k d within true_lit = inl (k, get_or lits k d, within, get_or_default lits k (get_or lits k d) d within, true_lit)

pub so_far_second : (known lits : List Lit) (k : ℕ) (d : Lit) (free : Option Lit) → HasNoVariableTwice lits → k < length lits → IsOpen known (get_or lits k d) → is_some free ≡ true → SoFar known (take k lits) free → IsAtRest known lits
so_far_second known lits k d None distinct within is_open some so_far = absurd (cc)
so_far_second known lits k d (Some one) distinct within is_open some so_far = so_far_two known lits k d one distinct within is_open so_far

pub so_far_first : (known lits : List Lit) (k : ℕ) (d : Lit) (free : Option Lit) → k < length lits → IsOpen known (get_or lits k d) → is_some free ≡ false → SoFar known (take k lits) free → SoFar known (take (k + 1) lits) (Some (get_or lits k d))
so_far_first known lits k d None within is_open none so_far = so_far_open known lits k d within is_open so_far
so_far_first known lits k d (Some one) within is_open none so_far = absurd (cc)

pub so_far_all : (known lits : List Lit) (k : ℕ) (free : Option Lit) → length lits ≤ k → SoFar known (take k lits) free → SoFar known lits free
so_far_all known lits k free all so_far = subst (λ ls. SoFar known ls free) (take_all k lits all) so_far
