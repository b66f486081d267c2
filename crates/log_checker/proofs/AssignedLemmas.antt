-- Lemmas on the undoing of all marks.
use Rattle.std.proofs.Common.{◌≡◌, ◌≢◌, ℕ, ◌*◌, ◌<◌, Bool, true, false, ◌||◌, List, [], ◌∷◌, length, get_or, set, refl, ap, sym, ◌∙◌, arith}
use Rattle.std.specs.Prelude.{All}
use Rattle.std.proofs.lemmas.List.{length-set, get_or-set_same, get_or-set_other}
use Rattle.std.proofs.lemmas.List.Elements.{All-nil, All-head, All-tail}
use Rattle.sat_core.specs.declared.literal.Lit.{Lit}
use Rattle.sat_core.specs.Clauses.{IsOver}
use Rattle.sat_core.specs.Hints.{is_same, is_known}
use Rattle.sat_core.specs.Marks.{mark_place, AreMarked}
use Rattle.sat_core.proofs.MarkLaws.{mark_within, other_place}

true_is_not_false : true ≡ false → ⊥
true_is_not_false same = cc

-- what is left to unmark: a mark that stands belongs to these literals
pub record AreLeft (vars : ℕ) (marks : List Bool) (left : List Lit) : Type 0 where
  pub all_places : length marks ≡ 2 * vars
  pub in_range : All (IsOver vars) left
  pub standing : (lit : Lit) → IsOver vars lit → get_or marks (mark_place lit) false ≡ true → is_known left lit ≡ true

pub AreLeft-all : (vars : ℕ) (marks : List Bool) (known : List Lit) → AreMarked vars marks known → AreLeft vars marks known
AreLeft-all vars marks known marked = record {
  all_places = marked.all_places;
  in_range = marked.in_range;
  standing = λ lit over stands. sym (marked.marked lit over) ∙ stands;
}

pub AreLeft-more : (vars : ℕ) (marks : List Bool) (first : Lit) (left : List Lit) → AreLeft vars marks (first ∷ left) → AreLeft vars (set marks (mark_place first) false) left
AreLeft-more vars marks first left before = record {
  all_places = length-set marks (mark_place first) false ∙ before.all_places;
  in_range = All-tail (IsOver vars) first left before.in_range;
  standing = λ lit over stands.
      let over' : IsOver vars first = All-head (IsOver vars) first left before.in_range in
      let within : mark_place first < length marks = omega (arith, mark_within vars first over', before.all_places) in
      let elsewhere : mark_place lit ≢ mark_place first = λ here. true_is_not_false (sym stands ∙ (ap (λ place. get_or (set marks (mark_place first) false) place false) here ∙ get_or-set_same marks (mark_place first) false false within)) in
      let stood : get_or marks (mark_place lit) false ≡ true = sym (get_or-set_other marks (mark_place first) (mark_place lit) false false elsewhere) ∙ stands in
      let either : (is_same lit first || is_known left lit) ≡ true = before.standing lit over stood in
      ap (λ b. b || is_known left lit) (sym (other_place lit first elsewhere)) ∙ either;
}

pub AreLeft-none : (vars : ℕ) (marks : List Bool) → AreLeft vars marks [] → AreMarked vars marks []
AreLeft-none vars marks left = record {
  all_places = left.all_places;
  in_range = All-nil (IsOver vars);
  marked = λ lit over. elim (get_or marks (mark_place lit) false) as (λ b. get_or marks (mark_place lit) false ≡ b → b ≡ false) [
    | true ↦ λ stands. sym (left.standing lit over stands)
    | false ↦ λ _. refl
  ] refl;
}
