-- What the loop of `first_bad_run` keeps from turn to turn.
use Rattle.plan_checker.specs.Verdicts.{HaveRunsBelow}
use Rattle.plan_checker.proofs.judging.first_bad_run.Given as goal

abbrev pub invariant-loop-number : goal.invariant-loop-number
invariant-loop-number l = HaveRunsBelow l.inst l.runs l.number
