-- A round of the search: what it leaves, that it comes nearer to the end, and what the solver's calls tell of it.
use Rattle.std.proofs.Common.{◌≡◌, ℕ, ◌+◌, ◌-◌, ◌*◌, ◌<◌, ◌≤◌, Bool, true, false, inl, inr, List, length, refl, ap, sym, subst, ◌∙◌, arith}
use Rattle.std.specs.Prelude.{Option, Some, None, Result, Ok, Err, OnOk, OnErr, IfOk, slice_get}
use Rattle.std.proofs.lemmas.Bool.{cases_Bool}
use Rattle.std.proofs.lemmas.Option.{slice_get_within, get_or_from_slice_get}
use Rattle.sat_core.specs.Derivation.{DerivedStep, AddsEmptyClause}
use Rattle.sat_core.specs.Search.{log_of}
use Rattle.solver_face.specs.declared.answer.Answer.{Answer}
use Rattle.solver_face.specs.declared.answer.Answer.TheVariants as answer
use Rattle.solver_face.specs.Solving.{IsSound, Searched, IsRefuted, AddNoEmptyClause}
use Rattle.solver_face.proofs.SolvingLaws.{numbers_used_grows, searched_on}
use Rattle.watch_solver.specs.declared.state.State.{State}
use Rattle.watch_solver.specs.Running.{watch_solving, first_clauses, LogEnds, IsWatchState, IsSeenAlike, still_to_do}
use Rattle.watch_solver.proofs.StateLemmas.{alike_searched}

-- ---- the measure
conflict_less : (had left vars one other : ℕ) → left + 1 ≡ had → left * (vars + 1) + (vars - one) < had * (vars + 1) + (vars - other)
conflict_less had left vars one other spent = subst (λ n. left * (vars + 1) + (vars - one) < n * (vars + 1) + (vars - other)) spent (omega arith)

pub met_nearer : (s n : State) (had left : ℕ) → n.trail.vars ≡ s.trail.vars → left + 1 ≡ had → still_to_do n left < still_to_do s had
met_nearer s n had left vars spent = subst (λ v. left * (v + 1) + (v - length n.trail.entries) < still_to_do s had) (sym vars) (conflict_less had left s.trail.vars (length n.trail.entries) (length s.trail.entries) spent)

pub round_nearer : (s m n : State) (left : ℕ) → IsWatchState n → n.refuted ≡ false → m.trail.vars ≡ s.trail.vars → length s.trail.entries ≤ length m.trail.entries → n.trail.vars ≡ m.trail.vars → length n.trail.entries ≡ length m.trail.entries + 1 → still_to_do n left < still_to_do s left
round_nearer s m n left state open_yet first longer second more =
    let few : length n.trail.entries ≤ n.trail.vars = (state.running open_yet).fits.laws.few in
    let same : n.trail.vars ≡ s.trail.vars = second ∙ first in
    subst (λ v. left * (v + 1) + (v - length n.trail.entries) < left * (s.trail.vars + 1) + (s.trail.vars - length s.trail.entries)) (sym same) (omega (arith, few, same, longer, more))

-- ---- the numbers suffice
pub last_searched : (s n : State) (had left : ℕ) → IsWatchState s → IsWatchState n → Searched (watch_solving s false) (watch_solving n false) had left → n.last + left ≡ s.last + had
last_searched s n had left before after searched = omega (arith, numbers_used_grows (watch_solving s false) (watch_solving n false) had left searched, before.numbers, after.numbers)

pub alike_on : (s m n : State) (had left : ℕ) → IsSound (watch_solving s false) → IsSeenAlike s m → Searched (watch_solving m false) (watch_solving n false) had left → Searched (watch_solving s false) (watch_solving n false) had left
alike_on s m n had left sound alike searched =
    searched_on (watch_solving s false) (watch_solving m false) (watch_solving n false) had had left
    (alike_searched s m had sound alike.vars (ap (λ g. first_clauses g m.store.live) alike.given ∙ ap (first_clauses s.given) alike.live) alike.history)
    searched

pub on_alike : (s m n : State) (had left : ℕ) → Searched (watch_solving s false) (watch_solving m false) had left → IsSeenAlike m n → Searched (watch_solving s false) (watch_solving n false) had left
on_alike s m n had left searched alike =
    searched_on (watch_solving s false) (watch_solving m false) (watch_solving n false) had left left searched
    (alike_searched m n left searched.sound alike.vars (ap (λ g. first_clauses g n.store.live) alike.given ∙ ap (first_clauses m.given) alike.live) alike.history)

-- ---- what the solver's calls tell
not_refuted : (steps : List DerivedStep) (last : Option DerivedStep) → slice_get steps (length steps - 1) ≡ last → AddNoEmptyClause steps → AddsEmptyClause last → ⊥
not_refuted steps None is none adds_empty = adds_empty
not_refuted steps (Some step) is none adds_empty =
    let within : length steps - 1 < length steps = slice_get_within steps (length steps - 1) step is in
    none (length steps - 1) step within (subst (λ (s : DerivedStep). AddsEmptyClause (Some s)) (sym (get_or_from_slice_get steps (length steps - 1) step step is)) adds_empty)

pub refuted_back : (s : State) (starved : Bool) → IsWatchState s → IsRefuted (watch_solving s starved) → s.refuted ≡ true
refuted_back s starved state refuted = elim (cases_Bool s.refuted) [
  | inl is ↦ is
  | inr open_yet ↦
      let none : AddNoEmptyClause (log_of s.history) = subst (λ b. LogEnds b (log_of s.history)) open_yet state.log_ends in
      absurd (not_refuted (log_of s.history) (slice_get (log_of s.history) (length (log_of s.history) - 1)) refl none refuted)
]

pub open_back : (s : State) (starved : Bool) → IsWatchState s → ¬ IsRefuted (watch_solving s starved) → s.refuted ≡ false
open_back s starved state open_yet = elim (cases_Bool s.refuted) [
  | inr is ↦ is
  | inl refuted ↦ absurd (open_yet (subst (λ b. LogEnds b (log_of s.history)) refuted state.log_ends))
]

pub on_ok : {X E : Type 0} (r : Result X E) (P Q : Type 0) → (P → Q) → OnOk r P → OnOk r Q
on_ok (Ok x) P Q make told = make told
on_ok (Err e) P Q make told = tt

pub on_either : {X E : Type 0} (r : Result X E) (P Q R : Type 0) → OnOk r P → OnErr r Q → (P → R) → (Q → R) → R
on_either (Ok x) P Q R one other make_one make_other = make_one one
on_either (Err e) P Q R one other make_one make_other = make_other other

pub answered : {E : Type 0} (r : Result Answer E) → r ≡ Ok answer.Unsat → IfOk r (λ a. a ≡ answer.Unsat)
answered r is = subst (λ (x : Result Answer _). IfOk x (λ a. a ≡ answer.Unsat)) (sym is) refl
