-- One unit's step more, up to the last unit.
use Rattle.std.proofs.Common.{◌≡◌, ◌+◌, ◌-◌, ◌<◌, ◌++◌, ◌∷◌, [], ℕ, suc, List, length, take, get_or, sym, ap, subst, ◌∙◌, arith}
use Rattle.std.proofs.lemmas.List.{map_push, append_assoc, take_all}
use Rattle.sat_core.specs.Derivation.{DerivedStep, adds}
use Rattle.derivation_log.specs.declared.step.Step.{Step}
use Rattle.derivation_log.specs.Steps.{derived, derived_steps}
use Rattle.log_rebase.specs.declared.mark.UnitMark.{UnitMark}
use Rattle.log_rebase.specs.Rebasing.{derive_marks}
use Rattle.log_rebase.proofs.DeriveLemmas.{length-derive_marks, derive_next}
use Rattle.log_rebase.proofs.rebasing.derive_units.Goals as goal

one_more : (old : List DerivedStep) (before after : List Step) (step : Step) (number : ℕ) (marks : List UnitMark) (k : ℕ) (d : UnitMark) → k + 1 < length marks → derived_steps before ≡ old ++ take k (derive_marks number marks) → after ≡ before ++ step ∷ [] → derived step ≡ adds (record { 0 = number + k }) ((get_or marks k d).lit ∷ []) (get_or marks k d).hints → derived_steps after ≡ old ++ take (suc k) (derive_marks number marks)
one_more old before after step number marks k d within kept pushed is_step =
    ap derived_steps pushed ∙ (map_push derived before step
    ∙ (ap (λ steps. steps ++ derived step ∷ []) kept
    ∙ (append_assoc old (take k (derive_marks number marks)) (derived step ∷ [])
    ∙ ap (λ steps. old ++ steps) (ap (λ s. take k (derive_marks number marks) ++ s ∷ []) is_step ∙ sym (derive_next number marks k d within)))))

pub loop-place-preserved : goal.loop-place-preserved
loop-place-preserved c =
    let number : c.args.clauses + 1 + c.loop-place.place ≡ c.args.clauses + 2 + (c.loop-place.place - 1) = omega arith in
    let is_step = c.in_ok-step.ensures ∙ ap (λ n. adds (record { 0 = n }) (c.index-units-place.result.lit ∷ []) c.index-units-place.result.hints) number ∙ ap (λ (m : UnitMark). adds (record { 0 = c.args.clauses + 2 + (c.loop-place.place - 1) }) (m.lit ∷ []) m.hints) c.index-units-place.is in
    let more = one_more (derived_steps c.args.steps.now.items) c.loop-place.steps.items c.push.new.self.items c.in_ok-step.step (c.args.clauses + 2) c.args.units.now (c.loop-place.place - 1) c.index-units-place.result (omega arith) c.loop-place.invariant c.in_ok-push.ensures.items is_step in
    let counted : suc (c.loop-place.place - 1) ≡ c.loop-place.place + 1 - 1 = omega arith in
    subst (λ n. derived_steps c.push.new.self.items ≡ derived_steps c.args.steps.now.items ++ take n (derive_marks (c.args.clauses + 2) c.args.units.now)) counted more

pub returns : goal.returns
returns c =
    c.loop-place.invariant ∙ ap (λ steps. derived_steps c.args.steps.now.items ++ steps) (take_all _ (derive_marks (c.args.clauses + 2) c.args.units.now) (omega (arith, length-derive_marks (c.args.clauses + 2) c.args.units.now)))
