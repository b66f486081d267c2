-- Why a learned clause is fresh: the trail up to its level is closed, and leaves one literal of it open.
use Rattle.std.proofs.Common.{◌≡◌, ◌≢◌, ℕ, zero, suc, ◌-◌, ◌<◌, true, false, ◌⊎◌, inl, inr, List, [], ◌∷◌, length, get_or, refl, ap, sym, subst, ◌∙◌, arith}
use Rattle.std.specs.Prelude.{All, Any, Contains, None}
use Rattle.std.proofs.lemmas.Bool.{cases_eq}
use Rattle.std.proofs.lemmas.List.{get_or_default, length-map, get_or-map}
use Rattle.std.proofs.lemmas.List.Elements.{All-nil, All-head, All-tail, All-cons}
use Rattle.sat_core.specs.declared.literal.Lit.{Lit}
use Rattle.sat_core.specs.Clauses.{negated}
use Rattle.sat_core.specs.Hints.{NumberedClause, is_known}
use Rattle.sat_core.specs.Fresh.{IsOpen, IsAtRest, IsUnitUnder, IsClosed, IsFresh}
use Rattle.search_trail.specs.declared.entry.Entry.{Entry}
use Rattle.search_trail.specs.Trails.{TrailParts, IsTrail, known_of, up_to}
use Rattle.sat_core.proofs.OpenLaws.{place_of_known, true_is_not_false}
use Rattle.search_trail.proofs.TrailLaws.{one_sign}
use Rattle.search_trail.proofs.LevelLaws.{up_to-at, up_to-not, known-from_up_to, unknown_below}
use Rattle.conflict_learn.specs.Learning.{IsAsserting}

pub open_above : (t : TrailParts) (place n : ℕ) (lit : Lit) → IsTrail t → place < length t.entries → ((d : Entry) → ((get_or t.entries place d).lit ≡ negated lit) × (n < (get_or t.entries place d).level)) → IsOpen (up_to n t.entries) lit
open_above t place n lit laws within at = (
  unknown_below t place n lit laws within (λ d. (ap (λ l. l.var.0) (at d).0, (at d).1)),
  unknown_below t place n (negated lit) laws within (λ d. (ap (λ l. l.var.0) (at d).0, (at d).1)),
)

-- under what is true up to that level the clause is unit
pub IsUnitUnder-learned : (t : TrailParts) (lits : List Lit) (level : ℕ) (learned : IsAsserting t lits level) → IsTrail t → IsUnitUnder (up_to level t.entries) lits learned.lit
IsUnitUnder-learned t lits level learned laws = record {
  stands = subst (λ ls. Contains ls learned.lit) (sym learned.is) (0, omega arith, refl);
  open_lit = open_above t learned.place level learned.lit laws learned.within (λ d. ((learned.false_here d).0, omega (arith, (learned.false_here d).1, learned.lower)));
  others_false = subst (All (λ other. other ≢ learned.lit → is_known (up_to level t.entries) (negated other) ≡ true)) (sym learned.is) (behind learned.lit learned.rest learned.others);
} where
  behind : (lit : Lit) (rest : List Lit) → All (λ other. is_known (up_to level t.entries) (negated other) ≡ true) rest → All (λ other. other ≢ lit → is_known (up_to level t.entries) (negated other) ≡ true) (lit ∷ rest)
  behind lit rest all zero d within apart = absurd (apart refl)
  behind lit rest all (suc k) d within apart = all k d (omega arith)

-- where the trail up to the level is closed over the live clauses, a learned clause is fresh
pub IsFresh-learned : (formula : List (List Lit)) (live : List NumberedClause) (t : TrailParts) (lits : List Lit) (level : ℕ) → IsTrail t → IsClosed (up_to level t.entries) live → IsAsserting t lits level → IsFresh formula live lits
unfolding IsFresh
IsFresh-learned formula live t [] level laws closed learned = absurd (cc)
IsFresh-learned formula live t (first ∷ lits) level laws closed learned = (up_to level t.entries, learned.lit, closed, IsUnitUnder-learned t (first ∷ lits) level learned laws)

-- at the end of each level below its own the learned clause has two open literals
pub learned_rest : (t : TrailParts) (lits : List Lit) (level n : ℕ) → IsTrail t → IsAsserting t lits level → n < level → IsAtRest (up_to n t.entries) lits
unfolding IsAtRest
learned_rest t lits level n laws head below = elim head.greatest [
  | inl none ↦ absurd (omega arith)
  | inr any ↦
      let b : Lit = any.1 in
      let e = any.4 in
      let at_b : (d : Entry) → ((get_or t.entries e.0 d).lit ≡ negated b) × ((get_or t.entries e.0 d).level ≡ level) = λ d. (ap (λ (x : Entry). x.lit) (get_or_default t.entries e.0 d e.1 e.2 ∙ e.3) ∙ e.4.0, ap (λ (x : Entry). x.level) (get_or_default t.entries e.0 d e.1 e.2 ∙ e.3) ∙ e.4.1) in
      let false_b : is_known (up_to level t.entries) (negated b) ≡ true = ap (λ l. is_known (up_to level t.entries) (negated l)) (sym any.3) ∙ head.others any.0 b any.2 in
      let open_a : IsOpen (up_to level t.entries) head.lit = open_above t head.place level head.lit laws head.within (λ d. ((head.false_here d).0, omega (arith, (head.false_here d).1, head.lower))) in
      inr (record {
        one = head.lit;
        other = b;
        one_stands = subst (λ ls. Contains ls head.lit) (sym head.is) (0, omega arith, refl);
        other_stands = subst (λ ls. Contains ls b) (sym head.is) (suc any.0, omega (arith, any.2), any.3);
        different = λ same. true_is_not_false (sym false_b ∙ (ap (λ l. is_known (up_to level t.entries) (negated l)) (sym same) ∙ open_a.1));
        one_open = open_above t head.place n head.lit laws head.within (λ d. ((head.false_here d).0, omega (arith, (head.false_here d).1, head.lower, below)));
        other_open = open_above t e.0 n b laws e.2 (λ d. ((at_b d).0, omega (arith, (at_b d).1, below)));
      })
]

-- a clause at rest isn't false
at_rest_not_false : (known lits : List Lit) → ((lit : Lit) → is_known known lit ≡ true → is_known known (negated lit) ≡ false) → All (λ lit. is_known known (negated lit) ≡ true) lits → IsAtRest known lits → ⊥
unfolding IsAtRest
at_rest_not_false known lits one all_false rest = elim rest [
  | inl any ↦ true_is_not_false (sym (ap (λ l. is_known known (negated l)) (sym any.3) ∙ all_false any.0 any.1 any.2) ∙ one any.1 any.4)
  | inr two ↦ true_is_not_false (sym (ap (λ l. is_known known (negated l)) (sym two.one_stands.2) ∙ all_false two.one_stands.0 two.one two.one_stands.1) ∙ two.one_open.1)
]

-- some literal is false at the present level, or all are false below it
split_levels : (t : TrailParts) (lits : List Lit) → IsTrail t → 0 < t.present → All (λ lit. is_known (known_of t.entries) (negated lit) ≡ true) lits → Any (λ lit. Any (λ e. (e.lit ≡ negated lit) × (e.level ≡ t.present)) t.entries) lits ⊎ All (λ lit. is_known (up_to (t.present - 1) t.entries) (negated lit) ≡ true) lits
split_levels t [] laws above all_false = inr (All-nil (λ lit. is_known (up_to (t.present - 1) t.entries) (negated lit) ≡ true))
split_levels t (lit ∷ lits) laws above all_false =
    let d : Entry = record { lit = lit; reason = None; level = 0 } in
    let at = place_of_known (known_of t.entries) (negated lit) (All-head (λ l. is_known (known_of t.entries) (negated l) ≡ true) lit lits all_false) in
    let within : at.0 < length t.entries = omega (arith, at.1, length-map t.entries (λ (x : Entry). x.lit)) in
    let is : (get_or t.entries at.0 d).lit ≡ negated lit = sym (get_or-map (λ (x : Entry). x.lit) t.entries at.0 d lit within) ∙ at.2 lit in
    let e : Entry = get_or t.entries at.0 d in
    elim (cases_eq e.level t.present) [
      | inl here ↦ inl (0, lit, omega arith, refl, (at.0, e, within, get_or_default t.entries at.0 e d within, (is, here)))
      | inr lower ↦
          let low : is_known (up_to (t.present - 1) t.entries) (negated lit) ≡ true = subst (λ l. is_known (up_to (t.present - 1) t.entries) l ≡ true) is (up_to-at (t.present - 1) t.entries at.0 d within (omega (arith, laws.up_to_now at.0 d within, above))) in
          elim (split_levels t lits laws above (All-tail (λ l. is_known (known_of t.entries) (negated l) ≡ true) lit lits all_false)) [
            | inl some ↦ inl (suc some.0, some.1, omega (arith, some.2), some.3, some.4)
            | inr all ↦ inr (All-cons (λ l. is_known (up_to (t.present - 1) t.entries) (negated l) ≡ true) lit lits low all)
          ]
    ]

-- what learning asks of a false clause that is at rest below the present level: it has a literal of that level
pub at_present : (t : TrailParts) (lits : List Lit) → IsTrail t → 0 < t.present → IsAtRest (up_to (t.present - 1) t.entries) lits → All (λ lit. is_known (known_of t.entries) (negated lit) ≡ true) lits → Any (λ lit. Any (λ e. (e.lit ≡ negated lit) × (e.level ≡ t.present)) t.entries) lits
at_present t lits laws above rest all_false = elim (split_levels t lits laws above all_false) [
  | inl some ↦ some
  | inr all ↦
      let level : ℕ = t.present - 1 in
      absurd (at_rest_not_false (up_to level t.entries) lits (λ lit true_lit. up_to-not level t.entries (negated lit) (one_sign t laws lit (known-from_up_to level t.entries lit true_lit))) all rest)
]
