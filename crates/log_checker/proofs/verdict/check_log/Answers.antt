-- Why `check_log` does what its contract says.
use Rattle.std.proofs.Common.{arith, subst, sym}
use Rattle.sat_core.specs.Derivation.{database_of}
use Rattle.derivation_log.specs.Steps.{derived_steps}
use Rattle.log_checker.specs.Verdicts.{IsFirstFault, IsVerdict}
use Rattle.log_checker.proofs.VerdictLemmas.{accepted_more, first_fault_at, if_ok}
use Rattle.log_checker.proofs.verdict.check_log.Goals as goal

pub returns-in-Err-clause-verdict : goal.returns-in-Err-clause-verdict
returns-in-Err-clause-verdict c = if_ok c.bad.result _ (IsVerdict c.args.formula.vars c.args.formula.clauses (derived_steps c.args.log.now.steps)) (λ verdict bad.
    let here = first_fault_at (database_of c.args.formula.vars c.args.formula.clauses) c.loop-index.checker c.as_slice-steps.result.now c.loop-index.index c.index-steps-index.result c.in-Err.fault (omega arith) c.index-steps-index.is c.loop-index.invariant.0 c.loop-index.invariant.1 bad.1 (c.in-Err.ensures.fault bad.1) in
    subst (IsVerdict c.args.formula.vars c.args.formula.clauses (derived_steps c.args.log.now.steps)) (sym bad.0)
    (subst (λ steps. IsFirstFault (database_of c.args.formula.vars c.args.formula.clauses) (derived_steps steps) c.loop-index.index c.in-Err.fault) c.as_slice-steps.ensures here)) c.bad.ensures

pub loop-index-preserved : goal.loop-index-preserved
loop-index-preserved c = accepted_more (database_of c.args.formula.vars c.args.formula.clauses) c.loop-index.checker c.take.new.self c.as_slice-steps.result.now c.loop-index.index c.index-steps-index.result (omega arith) c.index-steps-index.is c.loop-index.invariant.0 c.loop-index.invariant.1 c.in-Ok.ensures.accepted c.in-Ok.ensures.ok
