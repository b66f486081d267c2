-- What the loop of `first_clash_in` keeps from turn to turn.
use Rattle.std.proofs.Common.{ℕ, ◌<◌}
use Rattle.plan_checker.specs.ClashSearch.{AreAllApart}
use Rattle.plan_checker.specs.ClassMarks.{AreEarlier}
use Rattle.plan_checker.proofs.clashes.first_clash_in.Given as goal

abbrev pub invariant-loop-step : goal.invariant-loop-step
invariant-loop-step l = record {
  apart : (s : ℕ) → s < l.step → AreAllApart l.traffic s;
  earlier : AreEarlier l.step l.marks;
}
