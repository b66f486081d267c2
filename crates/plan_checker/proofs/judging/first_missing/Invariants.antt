-- What the loop of `first_missing` keeps from turn to turn.
use Rattle.vss_lists.specs.Breaks.{HoldsBelow}
use Rattle.plan_checker.specs.Verdicts.{IsHeld}
use Rattle.plan_checker.proofs.judging.first_missing.Given as goal

abbrev pub invariant-loop-place : goal.invariant-loop-place
invariant-loop-place l = HoldsBelow (IsHeld l.layout) l.kept l.place
