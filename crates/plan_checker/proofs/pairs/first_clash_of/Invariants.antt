-- What the loop of `first_clash_of` keeps from turn to turn.
use Rattle.std.proofs.Common.{ℕ, ◌<◌}
use Rattle.plan_checker.specs.ClashSearch.{AreTrainsApart}
use Rattle.plan_checker.proofs.pairs.first_clash_of.Given as goal

abbrev pub invariant-loop-b : goal.invariant-loop-b
invariant-loop-b l = (y : ℕ) → l.a < y → y < l.b → AreTrainsApart l.traffic l.step l.a y
