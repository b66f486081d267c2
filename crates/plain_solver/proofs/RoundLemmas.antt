-- A round of the search: what it leaves, and that it comes nearer to the end.
use Rattle.std.proofs.Common.{◌≡◌, ℕ, ◌+◌, ◌-◌, ◌*◌, ◌<◌, ◌≤◌, false, length, ap, sym, subst, ◌∙◌, arith}
use Rattle.std.proofs.lemmas.List.{append-nil, length-append}
use Rattle.derivation_log.specs.Steps.{derived_steps}
use Rattle.search_trail.specs.Trails.{TrailParts, IsTrail, Grows}
use Rattle.solver_face.specs.Solving.{Searched}
use Rattle.solver_face.proofs.SolvingLaws.{numbers_used_grows}
use Rattle.plain_solver.specs.declared.state.State.{State}
use Rattle.plain_solver.specs.States.{weave, events_of, solving_of, left_over, IsState}
use Rattle.plain_solver.proofs.StepLemmas.{numbers_used_is}

-- nothing was derived
pub same_searched : (s n : State) (had : ℕ) → IsState n → n.clauses ≡ s.clauses → n.given ≡ s.given → n.history ≡ s.history → n.log ≡ s.log → Searched (solving_of s false) (solving_of n false) had had
same_searched s n had state clauses given history log = record {
  same_vars = ap (λ c. c.vars) clauses;
  same_formula = ap (λ c. Rattle.std.specs.Prelude.take n.given c.clauses) clauses ∙ ap (λ k. Rattle.std.specs.Prelude.take k s.clauses.clauses) given;
  steps = Rattle.std.proofs.Common.[];
  begins = tt;
  grew = ap (λ h. weave h.items (derived_steps n.log.steps)) history ∙ (ap (λ l. weave s.history.items (derived_steps l.steps)) log ∙ sym (append-nil (events_of s)));
  spent = omega arith;
  sound = record { events = state.sound.events };
}

-- the numbers suffice
pub searched_room : (s n : State) (had left : ℕ) → IsState s → IsState n → Searched (solving_of s false) (solving_of n false) had left → length n.clauses.clauses + left ≡ length s.clauses.clauses + had
searched_room s n had left before after searched =
    omega (arith, numbers_used_grows (solving_of s false) (solving_of n false) had left searched, numbers_used_is s false before, numbers_used_is n false after)

-- a conflict less, whatever opens again
pub conflict_less : (had left vars one other : ℕ) → left + 1 ≡ had → left * (vars + 1) + (vars - one) < had * (vars + 1) + (vars - other)
conflict_less had left vars one other spent = subst (λ n. left * (vars + 1) + (vars - one) < n * (vars + 1) + (vars - other)) spent (omega arith)

pub met_nearer : (s n : State) (had left : ℕ) → n.trail.vars ≡ s.trail.vars → left + 1 ≡ had → left_over n left < left_over s had
met_nearer s n had left vars spent = subst (λ v. left * (v + 1) + (v - length n.trail.entries) < left_over s had) (sym vars) (conflict_less had left s.trail.vars (length n.trail.entries) (length s.trail.entries) spent)

-- an open variable less
pub open_nearer : (t u w : TrailParts) (left : ℕ) → Grows t u → IsTrail w → w.vars ≡ u.vars → length w.entries ≡ length u.entries + 1 → left * (w.vars + 1) + (w.vars - length w.entries) < left * (t.vars + 1) + (t.vars - length t.entries)
open_nearer t u w left grows laws vars more =
    let longer : length u.entries ≡ length t.entries + length grows.more = ap length grows.entries ∙ length-append t.entries grows.more in
    let same : w.vars ≡ t.vars = vars ∙ grows.vars in
    let few : length w.entries ≤ w.vars = laws.few in
    subst (λ n. left * (n + 1) + (n - length w.entries) < left * (t.vars + 1) + (t.vars - length t.entries)) (sym same) (omega arith)
