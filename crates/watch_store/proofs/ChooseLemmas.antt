-- Which literals can be watched: those that aren't false, and the latest of the false ones.
use Rattle.std.proofs.Common.{◌≡◌, ◌≢◌, ℕ, ◌+◌, ◌<◌, true, false, ◌⊎◌, inl, inr, List, length, take, get_or, ap, sym, subst, ◌∙◌, arith}
use Rattle.std.specs.Prelude.{All, Any, Contains, None}
use Rattle.std.proofs.lemmas.List.{get_or-map, length-map, get_or_default, take_more}
use Rattle.std.proofs.lemmas.List.Elements.{All-contains, All-push}
use Rattle.sat_core.specs.declared.literal.Lit.{Lit}
use Rattle.sat_core.specs.Clauses.{negated}
use Rattle.sat_core.specs.Hints.{is_known}
use Rattle.sat_core.specs.Fresh.{IsUnitUnder}
use Rattle.sat_core.proofs.OpenLaws.{place_of_known, true_is_not_false}
use Rattle.search_trail.specs.declared.entry.Entry.{Entry}
use Rattle.search_trail.specs.Trails.{TrailParts, AreFalse, known_of}
use Rattle.search_trail.proofs.TrailLaws.{known-at_entry}
use Rattle.watch_store.specs.Fits.{HasTwoNotFalse, IsUnitNow, IsChosen}
use Rattle.watch_store.specs.Walking.{OthersFalse}
use Rattle.watch_store.proofs.StepLemmas.{lit_cases}

-- ---- the literals of the present level
entry_of : (entries : List Entry) (lit : Lit) → is_known (known_of entries) lit ≡ true → Any (λ e. e.lit ≡ lit) entries
entry_of entries lit found =
    let at = place_of_known (known_of entries) lit found in
    let d : Entry = record { lit = lit; reason = None; level = 0 } in
    let within : at.0 < length entries = omega (arith, at.1, length-map entries (λ (x : Entry). x.lit)) in
    (at.0, get_or entries at.0 d, within, get_or_default entries at.0 (get_or entries at.0 d) d within, sym (get_or-map (λ (x : Entry). x.lit) entries at.0 d lit within) ∙ at.2 lit)

-- the variable of a false literal is assigned
pub false_assigned : (entries : List Entry) (lit : Lit) → is_known (known_of entries) (negated lit) ≡ true → Any (λ e. e.lit.var.0 ≡ lit.var.0) entries
false_assigned entries lit found =
    let at = entry_of entries (negated lit) found in
    (at.0, at.1, at.2, at.3, ap (λ (l : Lit). l.var.0) at.4)

pub latest_yes : (entries : List Entry) (lit : Lit) (level n : ℕ) → is_known (known_of entries) (negated lit) ≡ true → All (λ e. e.lit.var.0 ≡ lit.var.0 → e.level ≡ level) entries → level ≡ n → Any (λ e. (e.lit ≡ negated lit) × (e.level ≡ n)) entries
latest_yes entries lit level n found levels same =
    let at = entry_of entries (negated lit) found in
    let is : at.1.level ≡ level = subst (λ (e : Entry). e.lit.var.0 ≡ lit.var.0 → e.level ≡ level) at.3 (levels at.0 at.1 at.2) (ap (λ (l : Lit). l.var.0) at.4) in
    (at.0, at.1, at.2, at.3, (at.4, is ∙ same))

pub latest_unknown : (entries : List Entry) (lit : Lit) (n : ℕ) → is_known (known_of entries) (negated lit) ≡ false → All (λ e. e.lit ≡ negated lit → e.level ≢ n) entries
latest_unknown entries lit n unknown k d within is = absurd (true_is_not_false (sym (known-at_entry entries k d within) ∙ (ap (is_known (known_of entries)) is ∙ unknown)))

pub latest_lower : (entries : List Entry) (lit : Lit) (level n : ℕ) → All (λ e. e.lit.var.0 ≡ lit.var.0 → e.level ≡ level) entries → level ≢ n → All (λ e. e.lit ≡ negated lit → e.level ≢ n) entries
latest_lower entries lit level n levels apart k d within is same = apart (sym (levels k d within (ap (λ (l : Lit). l.var.0) is)) ∙ same)

pub none_latest : (entries : List Entry) (n : ℕ) (lits : List Lit) → All (λ lit. All (λ e. e.lit ≡ negated lit → e.level ≢ n) entries) lits → Any (λ lit. Any (λ e. (e.lit ≡ negated lit) × (e.level ≡ n)) entries) lits → ⊥
none_latest entries n lits none some =
    let e = some.4 in
    let never : (l : Lit) → get_or lits some.0 l ≡ some.1 → All (λ x. x.lit ≡ negated some.1 → x.level ≢ n) entries = λ l is. subst (λ m. All (λ (x : Entry). x.lit ≡ negated m → x.level ≢ n) entries) is (none some.0 l some.2) in
    subst (λ (x : Entry). x.lit ≡ negated some.1 → x.level ≢ n) e.3 (never some.1 some.3 e.0 e.1 e.2) e.4.0 e.4.1

-- ---- what is chosen
-- some literal isn't false
pub some_not_false : (t : TrailParts) (lits : List Lit) → AreFalse (known_of t.entries) lits → HasTwoNotFalse (known_of t.entries) lits ⊎ IsUnitNow t lits → ⊥
some_not_false t lits none watchable = elim watchable [
  | inl two ↦ true_is_not_false (sym (All-contains (λ lit. is_known (known_of t.entries) (negated lit) ≡ true) lits two.one none two.one_stands) ∙ two.one_not_false)
  | inr unit ↦ true_is_not_false (sym (All-contains (λ lit. is_known (known_of t.entries) (negated lit) ≡ true) lits unit.lit none unit.unit.stands) ∙ unit.unit.open_lit.1)
]

-- where the others are false the clause is unit
others_false_unit : (t : TrailParts) (lits : List Lit) (first : Lit) → is_known (known_of t.entries) (negated first) ≡ false → Contains lits first → OthersFalse (known_of t.entries) lits first → HasTwoNotFalse (known_of t.entries) lits ⊎ IsUnitNow t lits → IsUnitUnder (known_of t.entries) lits first × Any (λ other. Any (λ e. (e.lit ≡ negated other) × (e.level ≡ t.present)) t.entries) lits
others_false_unit t lits first not_false stands others watchable = elim watchable [
  | inl two ↦ absurd (elim (lit_cases two.one first) [
    | inr apart ↦ true_is_not_false (sym (All-contains (λ one. one ≢ first → is_known (known_of t.entries) (negated one) ≡ true) lits two.one others two.one_stands apart) ∙ two.one_not_false)
    | inl same ↦ true_is_not_false (sym (All-contains (λ one. one ≢ first → is_known (known_of t.entries) (negated one) ≡ true) lits two.other others two.other_stands (λ is. two.different (same ∙ sym is))) ∙ two.other_not_false)
  ])
  | inr unit ↦ elim (lit_cases unit.lit first) [
    | inl same ↦ (subst (IsUnitUnder (known_of t.entries) lits) same unit.unit, unit.latest)
    | inr apart ↦ absurd (true_is_not_false (sym (All-contains (λ one. one ≢ unit.lit → is_known (known_of t.entries) (negated one) ≡ true) lits first unit.unit.others_false stands (λ is. apart (sym is))) ∙ not_false))
  ]
]

pub some_latest : (t : TrailParts) (lits : List Lit) (first : Lit) → is_known (known_of t.entries) (negated first) ≡ false → Contains lits first → OthersFalse (known_of t.entries) lits first → HasTwoNotFalse (known_of t.entries) lits ⊎ IsUnitNow t lits → Any (λ other. Any (λ e. (e.lit ≡ negated other) × (e.level ≡ t.present)) t.entries) lits
some_latest t lits first not_false stands others watchable = (others_false_unit t lits first not_false stands others watchable).1

pub chosen_two : (t : TrailParts) (lits : List Lit) (first second : Lit) → Contains lits first → is_known (known_of t.entries) (negated first) ≡ false → Contains lits second → second ≢ first → is_known (known_of t.entries) (negated second) ≡ false → IsChosen t lits first second
chosen_two t lits first second stands not_false stands' apart not_false' = record {
  first_stands = stands;
  second_stands = stands';
  differ = λ same. apart (sym same);
  first_not_false = not_false;
  second_so = inl not_false';
}

pub chosen_latest : (t : TrailParts) (lits : List Lit) (first second : Lit) → Contains lits first → is_known (known_of t.entries) (negated first) ≡ false → OthersFalse (known_of t.entries) lits first → HasTwoNotFalse (known_of t.entries) lits ⊎ IsUnitNow t lits → Contains lits second → Any (λ e. (e.lit ≡ negated second) × (e.level ≡ t.present)) t.entries → IsChosen t lits first second
chosen_latest t lits first second stands not_false others watchable stands' latest =
    let e = latest in
    let false_second : is_known (known_of t.entries) (negated second) ≡ true = ap (is_known (known_of t.entries)) (sym (ap (λ (x : Entry). x.lit) e.3 ∙ e.4.0)) ∙ known-at_entry t.entries e.0 e.1 e.2 in
    record {
      first_stands = stands;
      second_stands = stands';
      differ = λ same. true_is_not_false (sym false_second ∙ (ap (λ l. is_known (known_of t.entries) (negated l)) (sym same) ∙ not_false));
      first_not_false = not_false;
      second_so = inr ((others_false_unit t lits first not_false stands others watchable).0, latest);
    }

-- one literal more is false
pub false_more : (known lits : List Lit) (k : ℕ) (d : Lit) → k < length lits → is_known known (negated (get_or lits k d)) ≡ true → AreFalse known (take k lits) → AreFalse known (take (k + 1) lits)
false_more known lits k d within now all =
    subst (AreFalse known) (sym (take_more lits k d within)) (All-push (λ lit. is_known known (negated lit) ≡ true) (take k lits) (get_or lits k d) all now)
