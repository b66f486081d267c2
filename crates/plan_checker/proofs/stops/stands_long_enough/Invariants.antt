-- What the loop of `stands_long_enough` keeps from turn to turn.
use Rattle.std.proofs.Common.{◌+◌}
use Rattle.cell_net.specs.Runs.{StandsIn}
use Rattle.plan_checker.proofs.StreakLemmas.{Streak}
use Rattle.plan_checker.proofs.stops.stands_long_enough.Given as goal

abbrev pub invariant-loop-place : goal.invariant-loop-place
invariant-loop-place l =
    Streak (StandsIn l.inst l.train l.run l.stop.station) l.stop.from l.stop.until l.stop.dwell (l.run.start + l.place) l.stood
