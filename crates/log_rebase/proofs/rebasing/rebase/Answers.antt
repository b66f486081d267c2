-- The law of rebased logs, at this log.
use Rattle.std.proofs.Common.{◌≡◌, ◌+◌, ◌++◌, map, sym, subst, ap, ◌∙◌, arith}
use Rattle.std.proofs.lemmas.List.{take_all}
use Rattle.sat_core.specs.Derivation.{Refutes}
use Rattle.sat_core.specs.Search.{log_of}
use Rattle.derivation_log.specs.Steps.{derived_steps}
use Rattle.log_rebase.specs.Rebasing.{rebased, derive_marks, with_numbers, renumbered, with_last, AreMarksOf}
use Rattle.log_rebase.proofs.Refuting.{rebased_refutes}
use Rattle.log_rebase.proofs.rebasing.rebase.Goals as goal

pub returns-clause-refutes : goal.returns-clause-refutes
returns-clause-refutes c = λ vars formula events long same refutes marks derive.
    let is : derived_steps c.from_vec.result ≡ rebased c.args.clauses c.args.units.now (derived_steps c.args.log.now.steps) =
    ap derived_steps c.from_vec.ensures ∙ (c.loop-step.invariant
    ∙ ap (λ steps. derive_marks (c.args.clauses + 2) c.args.units.now ++ map (with_numbers (renumbered c.args.clauses c.args.units.now)) (derived_steps steps)) (take_all _ _ (omega arith) ∙ c.as_slice-step-items.ensures)) in
    let law = rebased_refutes vars formula events c.args.units.now refutes.search refutes.empty_last (subst (λ n. AreMarksOf n events c.args.units.now) (sym long) marks) derive in
    subst (Refutes vars (with_last formula c.args.units.now)) (ap (λ n. rebased n c.args.units.now (log_of events)) long ∙ (ap (rebased c.args.clauses c.args.units.now) same ∙ sym is)) law
