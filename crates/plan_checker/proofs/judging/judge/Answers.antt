-- Why `judge` does what its contract says.
use Rattle.std.proofs.Common.{refl, Ok, Err}
use Rattle.std.specs.Prelude.{Result, OnErr}
use Rattle.vss_lists.specs.Orders.{IsFirstBroken}
use Rattle.plan_checker.specs.Verdicts.{IsFirstBreach}
use Rattle.plan_checker.proofs.JudgingLemmas.{have_runs, is_layout, is_lawful, runs_kept}
use Rattle.plan_checker.proofs.BreachLaws.{not_lawful}
use Rattle.plan_checker.proofs.judging.judge.Goals as goal

-- a fact holds on an error too
on_error : {X E : Type 0} (result : Result X E) (fact : Type 0) → fact → OnErr result fact
on_error (Ok x) fact holds = tt
on_error (Err e) fact holds = holds

pub returns-in-Some-clause-verdict : goal.returns-in-Some-clause-verdict
unfolding IsFirstBroken
returns-in-Some-clause-verdict c =
    let (place, first, there) = rw c.kept.ensures at c.in-Some.ensures in
    let breach : IsFirstBreach c.args.inst.now c.args.layout.now c.args.plan.now _ = (0, (place, c.in-Some.candidate, refl, first, there)) in
    (breach, not_lawful c.args.inst.now c.args.layout.now c.args.plan.now _ breach)

pub returns-in_err-breach-clause-memory : goal.returns-in_err-breach-clause-memory
returns-in_err-breach-clause-memory c =
    on_error c.from_residual.result _ (is_layout _ _ c.requires.layout (rw c.kept.ensures at c.in_default.ensures))

pub returns-in_err-classes-clause-memory : goal.returns-in_err-classes-clause-memory
returns-in_err-classes-clause-memory c =
    on_error c.from_residual-in_err-classes.result _ (is_layout _ _ c.requires.layout (rw c.kept.ensures at c.in_default.ensures))

pub returns-in_err-first_clash-clause-memory : goal.returns-in_err-first_clash-clause-memory
returns-in_err-first_clash-clause-memory c =
    on_error c.from_residual-in_err-first_clash.result _ (is_layout _ _ c.requires.layout (rw c.kept.ensures at c.in_default.ensures))

pub returns-in-Some-2-clause-verdict : goal.returns-in-Some-2-clause-verdict
unfolding IsFirstBroken
returns-in-Some-2-clause-verdict c =
    let kept = rw c.kept.ensures at c.in_default.ensures in
    let told = rw (c.in-Some-2.is, c.as_slice.ensures) at c.in_ok-breach.ensures in
    let breach : IsFirstBreach c.args.inst.now c.args.layout.now c.args.plan.now c.in-Some-2.breach = (1, (kept, told)) in
    (breach, not_lawful c.args.inst.now c.args.layout.now c.args.plan.now c.in-Some-2.breach breach)

pub first_clash-requires-clause-runs : goal.first_clash-requires-clause-runs
first_clash-requires-clause-runs c =
    let told = rw (c.in_default-2.is, c.as_slice.ensures) at c.in_ok-breach.ensures in
    have_runs c.args.inst.now c.args.plan.now.runs c.requires.runs told

pub returns-in-None-clause-verdict : goal.returns-in-None-clause-verdict
returns-in-None-clause-verdict c =
    let kept = rw c.kept.ensures at c.in_default.ensures in
    let runs = rw (c.in_default-2.is, c.as_slice.ensures) at c.in_ok-breach.ensures in
    let apart = rw c.in-None.is at c.in_ok-first_clash.ensures in
    is_lawful c.args.inst.now c.args.layout.now c.args.plan.now (is_layout _ _ c.requires.layout kept)
    (have_runs c.args.inst.now c.args.plan.now.runs c.requires.runs runs) apart

pub returns-clause-verdict : goal.returns-clause-verdict
unfolding IsFirstBroken
returns-clause-verdict c =
    let kept = rw c.kept.ensures at c.in_default.ensures in
    let runs = rw (c.in_default-2.is, c.as_slice.ensures) at c.in_ok-breach.ensures in
    let clash = rw c.in-Some-3.is at c.in_ok-first_clash.ensures in
    let found = c.in-Some-3.clash in
    let breach : IsFirstBreach c.args.inst.now c.args.layout.now c.args.plan.now c.breach_of_clash.result = (
      2,
      (
        kept,
        (
          runs_kept c.args.inst.now c.args.plan.now.runs (have_runs c.args.inst.now c.args.plan.now.runs c.requires.runs runs),
          (found.a, found.b, found.step, found.e, found.f, c.breach_of_clash.ensures, clash),
        ),
      ),
    ) in
    (breach, not_lawful c.args.inst.now c.args.layout.now c.args.plan.now c.breach_of_clash.result breach)
