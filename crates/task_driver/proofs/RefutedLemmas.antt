-- The rebased log of a refuted search refutes the formula of its last bound.
use Rattle.std.proofs.Common.{◌≡◌, ◌∙◌, ℕ, zero, suc, ◌+◌, ◌-◌, ◌<◌, ◌≤◌, nat_lt, Bool, true, false, cond, List, [], ◌∷◌, ◌++◌, length, map, refl, sym, ap, subst, arith, Some, None}
use Rattle.std.specs.Prelude.{All, Option, slice_get}
use Rattle.std.proofs.lemmas.Bool.{eq-eqb}
use Rattle.std.proofs.lemmas.Bool.Decides.{nat_tests}
use Rattle.std.proofs.lemmas.List.{append-nil}
use Rattle.std.proofs.lemmas.List.Elements.{All-cons, All-nil, All-head, All-tail}
use Rattle.sat_core.specs.declared.literal.Lit.{Lit}
use Rattle.sat_core.specs.Clauses.{negated}
use Rattle.sat_core.specs.Derivation.{DerivedStep, Refutes, numbered_from}
use Rattle.sat_core.specs.Hints.{NumberedClause, clause_of, is_known, hints_fault}
use Rattle.sat_core.specs.Search.{Event, log_of, RefutesWithUnits}
use Rattle.sat_core.proofs.LiveLaws.{clause_of-numbered}
use Rattle.border_counter.specs.Counter.{sum_to, at_least_var, at_least_lit, not_at_least_lit}
use Rattle.cell_net.specs.declared.ids.CandidateId.{CandidateId}
use Rattle.cell_net.specs.declared.parts.InstanceParts.{InstanceParts}
use Rattle.cell_net.specs.declared.plans.Plan.{Plan}
use Rattle.clause_encoder.specs.Maps.{MapParts}
use Rattle.derivation_log.specs.declared.step.Bound.TheVariants.{AtMost}
use Rattle.log_rebase.specs.Rebasing.{AreDerived, AreMarksOf, RiseFrom, with_last}
use Rattle.log_rebase.specs.declared.mark.UnitMark.{UnitMark}
use Rattle.solver_face.specs.Solving.{Solving, IsRefuted}
use Rattle.solver_face.proofs.SolvingLaws.{search_is}
use Rattle.task_driver.specs.BoundUnits.{bounds_in, mark_in, order_hints}
use Rattle.task_driver.specs.Outcomes.{RefuteBound, formula_of}
use Rattle.task_driver.specs.Questions.{of_fewest, Formulas}
use Rattle.task_driver.specs.Sessions.{AreLater}
use Rattle.task_driver.specs.Underway.{HasCounter, IsSearching, last_number}
use Rattle.task_driver.specs.declared.units.BoundUnit.{BoundUnit}
use Rattle.task_driver.proofs.ChainLemmas.{AreAbove, chain_fault, count_lit}
use Rattle.task_driver.proofs.SessionLemmas.{falling_last, falling_step}
use Rattle.task_driver.proofs.UnitLemmas.{are_marks, marks_in_order}

-- a unit's bound is from the last one to below the number of candidates
abbrev pub IsBetween : ℕ → ℕ → BoundUnit → Type 0
IsBetween last most u = (last ≤ u.most) × (u.most < most)

last_low : (p : InstanceParts) (most : ℕ) (units : List BoundUnit) → AreLater p of_fewest (AtMost most) (map AtMost (bounds_in units)) → last_number most (bounds_in units) ≤ most
last_low p most [] are = omega arith
last_low p most (u ∷ units) are = let below : last_number u.most (bounds_in units) < most = (falling_last p most u.most (bounds_in units) are).0 in omega arith

pub all_between : (p : InstanceParts) (most : ℕ) (units : List BoundUnit) → AreLater p of_fewest (AtMost most) (map AtMost (bounds_in units)) → All (IsBetween (last_number most (bounds_in units)) most) units
all_between p most [] are = All-nil (IsBetween most most)
all_between p most (u ∷ units) are =
    let first : u.most < most = (falling_step p most u.most are.0).0 in
    All-cons (IsBetween (last_number u.most (bounds_in units)) most) u units (last_low p u.most units are.1, first)
    (λ k d within. let rest = all_between p u.most units are.1 k d within in (rest.0, omega (arith, rest.1)))

found_still : {X : Type 0} (xs ys : List X) (i : ℕ) (x : X) → slice_get xs i ≡ Some x → slice_get (xs ++ ys) i ≡ Some x
found_still [] ys i x is = absurd cc
found_still (z ∷ xs) ys zero x is = is
found_still (z ∷ xs) ys (suc i) x is = found_still xs ys i x is

found_last : {X : Type 0} (xs : List X) (x : X) → slice_get (xs ++ x ∷ []) (length xs) ≡ Some x
found_last [] x = refl
found_last (z ∷ xs) x = found_last xs x

module _ (p : InstanceParts) (f : Formulas) (m : MapParts) (counter : HasCounter p f m) where
  -- what the counter's variables are
  abbrev counted : ℕ → ℕ
  counted j = at_least_var m.first_of_count m.candidates j

  -- the formula of the last unit
  with_last_is : (clauses last : ℕ) (u : BoundUnit) (units : List BoundUnit) → with_last f.free (map (mark_in m clauses last) (u ∷ units)) ≡ f.free ++ (f.unit (last_number u.most (bounds_in units)) ∷ []) ∷ []
  with_last_is clauses last u [] = ap (λ (l : Lit). f.free ++ (l ∷ []) ∷ []) (sym (counter.unit u.most))
  with_last_is clauses last u (v ∷ units) = with_last_is clauses last v units

  -- a unit is derived from the last one
  derived_one : (live : List NumberedClause) (clauses last : ℕ) (u : BoundUnit)
      → ((j : ℕ) → 1 ≤ j → j < length p.candidates → clause_of live (record { 0 = m.before_order + j }) ≡ Some (not_at_least_lit m.first_of_count m.candidates (j + 1) ∷ at_least_lit m.first_of_count m.candidates j ∷ []))
      → clause_of live (record { 0 = clauses + 1 }) ≡ Some (not_at_least_lit m.first_of_count m.candidates (last + 1) ∷ []) → IsBetween last (length p.candidates) u
      → hints_fault live (negated (mark_in m clauses last u).lit ∷ []) (order_hints m.before_order clauses last (u.most - last)) ≡ None
  derived_one live clauses last u order end between =
      let whole : last + (u.most - last) + 1 ≡ u.most + 1 = omega (arith, between.0) in
      let here : is_known (count_lit counted (u.most + 1) ∷ []) (count_lit counted (u.most + 1)) ≡ true = rw (eq-eqb (counted (u.most + 1)) (counted (u.most + 1)) refl) refl in
      chain_fault counted m.before_order clauses live last (u.most - last) (count_lit counted (u.most + 1) ∷ [])
      (λ a b some also same. let shown : m.first_of_count + sum_to (m.candidates - 1) + (a - 1) ≡ m.first_of_count + sum_to (m.candidates - 1) + (b - 1) = same in omega arith)
      (λ j above below. order j (omega arith) (omega (arith, between.0, between.1)))
      end
      (AreAbove.more (u.most + 1) [] (omega (arith, between.0)) AreAbove.none)
      (subst (λ (n : ℕ). is_known (count_lit counted (u.most + 1) ∷ []) (count_lit counted n) ≡ true) (sym whole) here)

  derived_all : (live : List NumberedClause) (clauses last : ℕ) (units : List BoundUnit)
      → ((j : ℕ) → 1 ≤ j → j < length p.candidates → clause_of live (record { 0 = m.before_order + j }) ≡ Some (not_at_least_lit m.first_of_count m.candidates (j + 1) ∷ at_least_lit m.first_of_count m.candidates j ∷ []))
      → clause_of live (record { 0 = clauses + 1 }) ≡ Some (not_at_least_lit m.first_of_count m.candidates (last + 1) ∷ []) → All (IsBetween last (length p.candidates)) units
      → AreDerived live (map (mark_in m clauses last) units)
  derived_all live clauses last [] order end between = tt
  derived_all live clauses last (u ∷ []) order end between = tt
  derived_all live clauses last (u ∷ v ∷ units) order end between = (
    derived_one live clauses last u order end (All-head (IsBetween last (length p.candidates)) u (v ∷ units) between),
    derived_all live clauses last (v ∷ units) order end (All-tail (IsBetween last (length p.candidates)) u (v ∷ units) between),
  )

  -- all of them, over the formula of the last one
  derived : (units : List BoundUnit) → AreLater p of_fewest (AtMost (length p.candidates)) (map AtMost (bounds_in units))
      → AreDerived (numbered_from 1 (with_last f.free (map (mark_in m (length f.free) (last_number (length p.candidates) (bounds_in units))) units))) (map (mark_in m (length f.free) (last_number (length p.candidates) (bounds_in units))) units)
  derived [] are = tt
  derived (u ∷ units) are =
      let last : ℕ = last_number u.most (bounds_in units) in
      let clauses : List (List Lit) = f.free ++ (f.unit last ∷ []) ∷ [] in
      let live : List NumberedClause = numbered_from 1 (with_last f.free (map (mark_in m (length f.free) last) (u ∷ units))) in
      let same : live ≡ numbered_from 1 clauses = ap (numbered_from 1) (with_last_is (length f.free) last u units) in
      let end : clause_of live (record { 0 = length f.free + 1 }) ≡ Some (not_at_least_lit m.first_of_count m.candidates (last + 1) ∷ []) =
      ap (λ (l : List NumberedClause). clause_of l (record { 0 = length f.free + 1 })) same
      ∙ (clause_of-numbered 1 clauses (record { 0 = length f.free + 1 }) (omega arith)
      ∙ (ap (slice_get clauses) (let place : length f.free + 1 - 1 ≡ length f.free = omega arith in place)
      ∙ (found_last f.free (f.unit last ∷ []) ∙ ap (λ (l : Lit). Some (l ∷ [])) (counter.unit last)))) in
      derived_all live (length f.free) last (u ∷ units)
      (λ j some below.
      ap (λ (l : List NumberedClause). clause_of l (record { 0 = m.before_order + j })) same
      ∙ (clause_of-numbered 1 clauses (record { 0 = m.before_order + j }) (omega arith)
      ∙ found_still f.free ((f.unit last ∷ []) ∷ []) (m.before_order + j - 1) (not_at_least_lit m.first_of_count m.candidates (j + 1) ∷ at_least_lit m.first_of_count m.candidates j ∷ []) (counter.order j some below)))
      end (all_between p (length p.candidates) (u ∷ units) are)

  -- with the last unit it is the formula of the last bound
  last_formula : (units : List BoundUnit) (clauses last : ℕ) → AreLater p of_fewest (AtMost (length p.candidates)) (map AtMost (bounds_in units))
      → with_last f.free (map (mark_in m clauses last) units) ≡ formula_of f p (AtMost (last_number (length p.candidates) (bounds_in units)))
  last_formula [] clauses last are =
      let test : nat_lt (length p.candidates) (length p.candidates) ≡ false = grind (arith, nat_tests) in
      sym (ap (λ (b : Bool). f.free ++ cond b ((f.unit (length p.candidates) ∷ []) ∷ []) []) test ∙ append-nil f.free)
  last_formula (u ∷ units) clauses last are =
      let k : ℕ = last_number u.most (bounds_in units) in
      let below : k < length p.candidates = (falling_last p (length p.candidates) u.most (bounds_in units) are).0 in
      let test : nat_lt k (length p.candidates) ≡ true = grind (arith, nat_tests) in
      with_last_is clauses last u units ∙ sym (ap (λ (b : Bool). f.free ++ cond b ((f.unit k ∷ []) ∷ []) []) test)

-- what `rebase` gives for these marks, a log and the new one
abbrev pub RebasesTo : ℕ → List UnitMark → List DerivedStep → List DerivedStep → Type 0
RebasesTo clauses marks log new = (vars : ℕ) (formula : List (List Lit)) (events : List Event) → length formula ≡ clauses → log_of events ≡ log → RefutesWithUnits vars formula events → AreMarksOf clauses events marks
    → AreDerived (numbered_from 1 (with_last formula marks)) marks → Refutes vars (with_last formula marks) new

pub rebased_bound : (f : Formulas) (p : InstanceParts) (m : MapParts) (budget : ℕ) (s : Solving) (left : ℕ) (units : List BoundUnit) (best : Option (List CandidateId × Plan)) (clauses : ℕ) (marks : List UnitMark) (log new : List DerivedStep)
    → IsSearching f p m budget s left units best → clauses ≡ length s.formula → marks ≡ map (mark_in m clauses (last_number (length p.candidates) (bounds_in units))) units → log ≡ log_of s.events → IsRefuted s
    → RebasesTo clauses marks log new → RefuteBound f p (AtMost (last_number (length p.candidates) (bounds_in units))) new
rebased_bound f p m budget s left units best clauses marks log new is count marks_are log_is refuted law =
    let last : ℕ = last_number (length p.candidates) (bounds_in units) in
    let size : length f.free ≡ clauses = ap length (sym is.underway.formula) ∙ sym count in
    let these : map (mark_in m (length f.free) last) units ≡ marks = ap (λ (n : ℕ). map (mark_in m n last) units) size ∙ sym marks_are in
    let given : AreMarksOf clauses s.events marks =
    subst (λ (n : ℕ). AreMarksOf n s.events marks) size
    (subst (λ (ms : List UnitMark). AreMarksOf (length f.free) s.events ms) these
    (are_marks f.unit (mark_in m (length f.free) last) (λ u. refl) (λ u. sym (is.counter.unit u.most)) (length f.free) s.events units is.numbered)) in
    let follow : AreDerived (numbered_from 1 (with_last f.free marks)) marks =
    subst (λ (ms : List UnitMark). AreDerived (numbered_from 1 (with_last f.free ms)) ms) these (derived p f m is.counter units is.underway.falling) in
    subst (λ (cs : List (List Lit)). Refutes f.free_vars cs new)
    (ap (with_last f.free) (sym these) ∙ last_formula p f m is.counter units (length f.free) last is.underway.falling)
    (law f.free_vars f.free s.events size (sym log_is)
    (record { search = search_is s f.free_vars f.free is.underway.sound is.underway.vars is.underway.formula; empty_last = refuted })
    given follow)

-- the marks rise
pub marks_rise : (f : Formulas) (p : InstanceParts) (m : MapParts) (budget : ℕ) (s : Solving) (left : ℕ) (units : List BoundUnit) (best : Option (List CandidateId × Plan)) (clauses last : ℕ) (marks : List UnitMark)
    → IsSearching f p m budget s left units best → clauses ≡ length s.formula → marks ≡ map (mark_in m clauses last) units → RiseFrom clauses marks
marks_rise f p m budget s left units best clauses last marks is count marks_are =
    let size : length f.free ≡ clauses = ap length (sym is.underway.formula) ∙ sym count in
    subst (λ (n : ℕ). RiseFrom n marks) size
    (marks_in_order (length f.free) s.events marks (subst (λ (ms : List UnitMark). AreMarksOf (length f.free) s.events ms) (sym marks_are)
    (are_marks f.unit (mark_in m clauses last) (λ u. refl) (λ u. sym (is.counter.unit u.most)) (length f.free) s.events units is.numbered)))
