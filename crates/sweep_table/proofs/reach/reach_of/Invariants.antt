-- What the loop of `reach_of` keeps from turn to turn.
use Rattle.sweep_table.specs.Reach.{IsReach}
use Rattle.sweep_table.proofs.reach.reach_of.Given as goal

abbrev pub invariant-loop-round : goal.invariant-loop-round
invariant-loop-round l = IsReach l.growth.inst.now l.growth.train l.growth.after.now l.growth.count l.round l.reach.items
