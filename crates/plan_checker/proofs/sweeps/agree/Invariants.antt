-- What the loop of `agree` keeps from turn to turn.
use Rattle.std.proofs.Common.{◌≡◌, take}
use Rattle.plan_checker.proofs.sweeps.agree.Given as goal

abbrev pub invariant-loop-place : goal.invariant-loop-place
invariant-loop-place l = take l.place l.one ≡ take l.place l.other
