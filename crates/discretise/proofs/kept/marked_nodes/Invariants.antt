-- What the loop of `marked_nodes` keeps from turn to turn.
use Rattle.std.proofs.Common.{take}
use Rattle.discretise.specs.Places.{AreMarkedFor}
use Rattle.discretise.proofs.kept.marked_nodes.Given as goal

abbrev pub invariant-loop-at : goal.invariant-loop-at
invariant-loop-at l = AreMarkedFor l.net l.timetable l.tracks (take l.at l.net.borders) l.nodes l.marks.items
