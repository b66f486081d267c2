-- What the loop of `are_all_apart` keeps from turn to turn.
use Rattle.std.proofs.Common.{ℕ, ◌+◌, ◌<◌}
use Rattle.plan_checker.specs.ClassMarks.{AreEarlier, AreOfTrains, IsTrainMarked}
use Rattle.plan_checker.proofs.marks.are_all_apart.Given as goal

abbrev pub invariant-loop-train : goal.invariant-loop-train
invariant-loop-train l = record {
  marked : (x : ℕ) → x < l.train → IsTrainMarked l.traffic l.marks l.step x;
  trains : AreOfTrains l.traffic l.marks l.step l.train;
  earlier : AreEarlier (l.step + 1) l.marks;
}
