-- What the loop of `mark_sweep` keeps from turn to turn.
use Rattle.std.proofs.Common.{◌+◌}
use Rattle.vss_lists.specs.Breaks.{HoldsBelow}
use Rattle.plan_checker.specs.ClassMarks.{AreEarlier, IsClassMarked, KeepsMarks, MarksOnly}
use Rattle.plan_checker.proofs.marks.mark_sweep.Given as goal

abbrev pub invariant-loop-directed : goal.invariant-loop-directed
invariant-loop-directed l = record {
  marked : HoldsBelow (IsClassMarked l.classes l.marks l.step l.train) l.cells l.directed-index;
  kept : KeepsMarks l.step l.initial.marks l.marks;
  only : MarksOnly l.step l.train l.classes l.cells l.initial.marks l.marks;
  earlier : AreEarlier (l.step + 1) l.marks;
}
