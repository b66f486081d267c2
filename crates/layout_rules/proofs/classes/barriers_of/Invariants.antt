-- What the loop of `barriers_of` keeps from turn to turn.
use Rattle.std.proofs.Common.{take}
use Rattle.cell_net.specs.Segments.{AreBarriers}
use Rattle.layout_rules.proofs.classes.barriers_of.Given as goal

abbrev pub invariant-loop-border : goal.invariant-loop-border
invariant-loop-border l = AreBarriers l.inst (take l.border-index l.borders) l.barriers.items
