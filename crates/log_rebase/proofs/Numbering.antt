-- The new numbers: different numbers have different ones, and added clauses have rising ones behind those of the marks.
use Rattle.std.proofs.Common.{◌≡◌, ◌≢◌, ℕ, ◌+◌, ◌<◌, ◌≤◌, true, false, cond, inl, inr, List, [], ◌∷◌, length, refl, sym, ap, ◌∙◌, arith}
use Rattle.std.specs.Prelude.{nat_eq, nat_lt, Option, Some, None}
use Rattle.std.proofs.lemmas.Bool.{cases_eq, cases_lt, cases_order, eq-eqb, ne_eqb}
use Rattle.std.proofs.lemmas.Bool.Decides.{nat_tests}
use Rattle.log_rebase.specs.declared.mark.UnitMark.{UnitMark}
use Rattle.log_rebase.specs.Rebasing.{RiseFrom, marks_above, next_place, place_among, mark_number, renumbered}
use Rattle.log_rebase.proofs.Carried.{IsOneToOne}

abbrev first_place : Option ℕ
first_place = Some 0

pub yes_below : (a b : ℕ) → a < b → nat_lt a b ≡ true
yes_below a b below = grind (arith, nat_tests)

pub not_below : (a b : ℕ) → b ≤ a → nat_lt a b ≡ false
not_below a b above = grind (arith, nat_tests)

pub all_above : (last number : ℕ) (marks : List UnitMark) → RiseFrom last marks → number ≤ last → marks_above number marks ≡ length marks
all_above last number [] rise low = refl
all_above last number (mark ∷ marks) rise low =
    let first : last < mark.id.0 = rise.0 in
    let rest : marks_above number marks ≡ length marks = all_above mark.id.0 number marks rise.1 (omega arith) in
    rw (yes_below number mark.id.0 (omega arith)) (omega arith)

-- a number that is none of the marks' isn't the first one's, and none of the others'
none_first : (number : ℕ) (mark : UnitMark) (marks : List UnitMark) → place_among number (mark ∷ marks) ≡ None → (number ≢ mark.id.0) × (place_among number marks ≡ None)
none_first number mark marks none =
    elim (cases_eq number mark.id.0) [
      | inl same ↦ absurd (is_some (rw (eq-eqb number mark.id.0 same) at none))
      | inr differs ↦ (differs, was_none (place_among number marks) (rw (ne_eqb number mark.id.0 differs) at none))
    ]
  where
    is_some : first_place ≡ None → ⊥
    is_some e = cc

    was_none : (o : Option ℕ) → next_place o ≡ None → o ≡ None
    was_none None e = refl
    was_none (Some p) e = absurd (cc)

-- the new number of an added clause is behind those of all marks
pub behind_marks : (last number : ℕ) (marks : List UnitMark) → RiseFrom last marks → place_among number marks ≡ None → last < number → last + length marks + 1 ≤ number + marks_above number marks
behind_marks last number [] rise none high = omega arith
behind_marks last number (mark ∷ marks) rise none high =
    let parts = none_first number mark marks none in
    elim (cases_lt number mark.id.0) [
      | inl below ↦
          let rest : marks_above number marks ≡ length marks = all_above mark.id.0 number marks rise.1 (omega arith) in
          rw (yes_below number mark.id.0 below) (omega arith)
      | inr over ↦
          let differs : number ≢ mark.id.0 = parts.0 in
          let first : last < mark.id.0 = rise.0 in
          let rest : mark.id.0 + length marks + 1 ≤ number + marks_above number marks = behind_marks mark.id.0 number marks rise.1 parts.1 (omega arith) in
          rw (not_below number mark.id.0 over) (omega arith)
    ]

-- the new numbers of added clauses rise
pub added_rise : (last a b : ℕ) (marks : List UnitMark) → RiseFrom last marks → a < b → place_among b marks ≡ None → a + marks_above a marks < b + marks_above b marks
added_rise last a b [] rise less none = omega arith
added_rise last a b (mark ∷ marks) rise less none =
    let parts = none_first b mark marks none in
    elim (cases_lt b mark.id.0) [
      | inl below ↦
          let one : marks_above b marks ≡ length marks = all_above mark.id.0 b marks rise.1 (omega arith) in
          let other : marks_above a marks ≡ length marks = all_above mark.id.0 a marks rise.1 (omega arith) in
          rw (yes_below b mark.id.0 below, yes_below a mark.id.0 (omega arith)) (omega arith)
      | inr over ↦ elim (cases_lt a mark.id.0) [
        | inl low ↦
            let differs : b ≢ mark.id.0 = parts.0 in
            let one : mark.id.0 + length marks + 1 ≤ b + marks_above b marks = behind_marks mark.id.0 b marks rise.1 parts.1 (omega arith) in
            let other : marks_above a marks ≡ length marks = all_above mark.id.0 a marks rise.1 (omega arith) in
            rw (not_below b mark.id.0 over, yes_below a mark.id.0 low) (omega arith)
        | inr high ↦
            let rest : a + marks_above a marks < b + marks_above b marks = added_rise mark.id.0 a b marks rise.1 less parts.1 in
            rw (not_below b mark.id.0 over, not_below a mark.id.0 high) (omega arith)
      ]
    ]

pub place_within : (number place : ℕ) (marks : List UnitMark) → place_among number marks ≡ Some place → place < length marks
place_within number place [] is = absurd (cc)
place_within number place (mark ∷ marks) is =
    elim (nat_eq number mark.id.0) as (λ b. cond b (Some 0) (next_place (place_among number marks)) ≡ Some place → place < length (mark ∷ marks)) [
      | true ↦ λ here. let same : 0 ≡ place = cc in omega arith
      | false ↦ λ later. elim (place_among number marks) as (λ o. place_among number marks ≡ o → next_place o ≡ Some place → place < length (mark ∷ marks)) [
        | None ↦ λ was never. absurd (cc)
        | Some p ↦ λ was more. let same : p + 1 ≡ place = cc in let rest : p < length marks = place_within number p marks was in omega arith
      ] refl later
    ] is

-- one place is that of one number
pub place_same : (a b place : ℕ) (marks : List UnitMark) → place_among a marks ≡ Some place → place_among b marks ≡ Some place → a ≡ b
place_same a b place [] one other = absurd (cc)
place_same a b place (mark ∷ marks) one other =
    elim (cases_eq a mark.id.0) [
      | inl is ↦ elim (cases_eq b mark.id.0) [
        | inl also ↦ is ∙ sym also
        | inr differs ↦ absurd (zero_or_more place (place_among b marks) (rw (eq-eqb a mark.id.0 is) at one) (rw (ne_eqb b mark.id.0 differs) at other))
      ]
      | inr differs ↦ elim (cases_eq b mark.id.0) [
        | inl also ↦ absurd (zero_or_more place (place_among a marks) (rw (eq-eqb b mark.id.0 also) at other) (rw (ne_eqb a mark.id.0 differs) at one))
        | inr too ↦
            let p = place_before place (place_among a marks) (rw (ne_eqb a mark.id.0 differs) at one) in
            let q = place_before place (place_among b marks) (rw (ne_eqb b mark.id.0 too) at other) in
            let same : p.0 ≡ q.0 = let left : p.0 + 1 ≡ place = p.2 in let right : q.0 + 1 ≡ place = q.2 in omega arith in
            place_same a b q.0 marks (p.1 ∙ ap (λ (n : ℕ). Some n) same) q.1
      ]
    ]
  where
    zero_or_more : (n : ℕ) (o : Option ℕ) → first_place ≡ Some n → next_place o ≡ Some n → ⊥
    zero_or_more n None first more = cc
    zero_or_more n (Some p) first more = let zero_is : 0 ≡ n = cc in let more_is : p + 1 ≡ n = cc in omega arith

    place_before : (n : ℕ) (o : Option ℕ) → next_place o ≡ Some n → (p : ℕ) × (o ≡ Some p) × (p + 1 ≡ n)
    place_before n None more = absurd (cc)
    place_before n (Some p) more = (p, refl, cc)

mark_number_low : (clauses count place : ℕ) → place < count → clauses + 1 ≤ mark_number clauses count place
mark_number_low clauses count place within =
    elim (nat_eq (place + 1) count) as (λ b. clauses + 1 ≤ cond b (clauses + 1) (clauses + 2 + place)) [ true ↦ omega arith | false ↦ omega arith ]

mark_number_high : (clauses count place : ℕ) → place < count → mark_number clauses count place ≤ clauses + count
mark_number_high clauses count place within =
    elim (cases_eq (place + 1) count) [
      | inl last ↦ rw (eq-eqb (place + 1) count last) (omega arith)
      | inr other ↦ rw (ne_eqb (place + 1) count other) (omega arith)
    ]

mark_number_same : (clauses count p q : ℕ) → mark_number clauses count p ≡ mark_number clauses count q → p ≡ q
mark_number_same clauses count p q same =
    elim (cases_eq (p + 1) count) [
      | inl last ↦ elim (cases_eq (q + 1) count) [
        | inl also ↦ omega arith
        | inr other ↦ let e : clauses + 1 ≡ clauses + 2 + q = rw (eq-eqb (p + 1) count last, ne_eqb (q + 1) count other) at same in absurd (omega arith)
      ]
      | inr other ↦ elim (cases_eq (q + 1) count) [
        | inl also ↦ let e : clauses + 2 + p ≡ clauses + 1 = rw (ne_eqb (p + 1) count other, eq-eqb (q + 1) count also) at same in absurd (omega arith)
        | inr too ↦ let e : clauses + 2 + p ≡ clauses + 2 + q = rw (ne_eqb (p + 1) count other, ne_eqb (q + 1) count too) at same in omega arith
      ]
    ]

-- what a new number is
pub data NumberKind (clauses : ℕ) (marks : List UnitMark) (number : ℕ) : Type 0 where
  of_formula : number ≤ clauses → renumbered clauses marks number ≡ number → NumberKind clauses marks number
  of_mark : (place : ℕ) → place_among number marks ≡ Some place → place < length marks → renumbered clauses marks number ≡ mark_number clauses (length marks) place → NumberKind clauses marks number
  of_added : clauses < number → place_among number marks ≡ None → renumbered clauses marks number ≡ number + marks_above number marks → NumberKind clauses marks number

pub kind_of : (clauses : ℕ) (marks : List UnitMark) (number : ℕ) → NumberKind clauses marks number
kind_of clauses marks number =
    elim (cases_lt clauses number) [
      | inl high ↦ elim (place_among number marks) as (λ o. place_among number marks ≡ o → NumberKind clauses marks number) [
        | None ↦ λ none. of_added high none (rw (yes_below clauses number high, none) refl)
        | Some place ↦ λ is. of_mark place is (place_within number place marks is) (rw (yes_below clauses number high, is) refl)
      ] refl
      | inr low ↦ of_formula low (rw (not_below clauses number low) refl)
    ]

apart : (clauses : ℕ) (marks : List UnitMark) (a b : ℕ) → RiseFrom clauses marks → NumberKind clauses marks a → NumberKind clauses marks b → renumbered clauses marks a ≡ renumbered clauses marks b → a ≡ b
apart clauses marks a b rise (of_formula low is) (of_formula low' is') same = sym is ∙ (same ∙ is')
apart clauses marks a b rise (of_formula low is) (of_mark q at within is') same =
    let bound : clauses + 1 ≤ mark_number clauses (length marks) q = mark_number_low clauses (length marks) q within in
    let e : a ≡ mark_number clauses (length marks) q = sym is ∙ (same ∙ is') in absurd (omega arith)
apart clauses marks a b rise (of_formula low is) (of_added high none is') same =
    let e : a ≡ b + marks_above b marks = sym is ∙ (same ∙ is') in absurd (omega arith)
apart clauses marks a b rise (of_mark p at within is) (of_formula low is') same =
    let bound : clauses + 1 ≤ mark_number clauses (length marks) p = mark_number_low clauses (length marks) p within in
    let e : mark_number clauses (length marks) p ≡ b = sym is ∙ (same ∙ is') in absurd (omega arith)
apart clauses marks a b rise (of_mark p at within is) (of_mark q at' within' is') same =
    let e : p ≡ q = mark_number_same clauses (length marks) p q (sym is ∙ (same ∙ is')) in
    place_same a b q marks (at ∙ ap (λ (n : ℕ). Some n) e) at'
apart clauses marks a b rise (of_mark p at within is) (of_added high none is') same =
    let bound : mark_number clauses (length marks) p ≤ clauses + length marks = mark_number_high clauses (length marks) p within in
    let behind : clauses + length marks + 1 ≤ b + marks_above b marks = behind_marks clauses b marks rise none high in
    let e : mark_number clauses (length marks) p ≡ b + marks_above b marks = sym is ∙ (same ∙ is') in absurd (omega arith)
apart clauses marks a b rise (of_added high none is) (of_formula low is') same =
    let e : a + marks_above a marks ≡ b = sym is ∙ (same ∙ is') in absurd (omega arith)
apart clauses marks a b rise (of_added high none is) (of_mark q at within is') same =
    let bound : mark_number clauses (length marks) q ≤ clauses + length marks = mark_number_high clauses (length marks) q within in
    let behind : clauses + length marks + 1 ≤ a + marks_above a marks = behind_marks clauses a marks rise none high in
    let e : a + marks_above a marks ≡ mark_number clauses (length marks) q = sym is ∙ (same ∙ is') in absurd (omega arith)
apart clauses marks a b rise (of_added high none is) (of_added high' none' is') same =
    let e : a + marks_above a marks ≡ b + marks_above b marks = sym is ∙ (same ∙ is') in
    elim (cases_order a b) [
      | inl equal ↦ equal
      | inr (inl less) ↦ let rises : a + marks_above a marks < b + marks_above b marks = added_rise clauses a b marks rise less none' in absurd (omega arith)
      | inr (inr more) ↦ let rises : b + marks_above b marks < a + marks_above a marks = added_rise clauses b a marks rise more none in absurd (omega arith)
    ]

-- different numbers have different new numbers
pub renumbered_apart : (clauses : ℕ) (marks : List UnitMark) → RiseFrom clauses marks → IsOneToOne (renumbered clauses marks)
renumbered_apart clauses marks rise = λ a b same. apart clauses marks a b rise (kind_of clauses marks a) (kind_of clauses marks b) same
