-- What the loop of `first_unmet_stop` keeps from turn to turn.
use Rattle.vss_lists.specs.Breaks.{HoldsBelow}
use Rattle.plan_checker.specs.RunRules.{IsMetAt}
use Rattle.plan_checker.proofs.stops.first_unmet_stop.Given as goal

abbrev pub invariant-loop-place : goal.invariant-loop-place
invariant-loop-place l = HoldsBelow (IsMetAt l.inst l.train l.run) l.stops l.place
