-- What the loop of `first_bad_sweep` keeps from turn to turn.
use Rattle.vss_lists.specs.Breaks.{HoldsBelow}
use Rattle.vss_lists.specs.Orders.{AreKept}
use Rattle.plan_checker.specs.RunRules.{rules_of_sweep}
use Rattle.plan_checker.proofs.sweeps.first_bad_sweep.Given as goal

abbrev pub invariant-loop-place : goal.invariant-loop-place
invariant-loop-place l = HoldsBelow (λ place w. AreKept (rules_of_sweep l.inst l.id l.train l.run place w)) l.run.sweeps l.place
