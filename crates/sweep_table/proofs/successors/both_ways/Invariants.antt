-- What the loop of `both_ways` keeps from turn to turn.
use Rattle.std.specs.Prelude.{take}
use Rattle.sweep_table.specs.Successions.{AreSuccessionsOf}
use Rattle.sweep_table.proofs.successors.both_ways.Given as goal

abbrev pub invariant-loop-join : goal.invariant-loop-join
invariant-loop-join l = AreSuccessionsOf (take l.join-index l.joins) l.successions.items
