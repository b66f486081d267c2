-- What the loop of `both_ways` keeps from turn to turn.
use Rattle.std.proofs.Common.{take}
use Rattle.cell_net.specs.Passages.{ArePassagesOf}
use Rattle.cell_net.proofs.passages.both_ways.Given as goal

abbrev pub invariant-loop-join : goal.invariant-loop-join
invariant-loop-join l = ArePassagesOf (take l.join-index l.joins) l.passages.items
