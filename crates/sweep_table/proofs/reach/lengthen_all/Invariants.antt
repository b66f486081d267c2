-- What the loop of `lengthen_all` keeps from turn to turn.
use Rattle.std.specs.Prelude.{◌*◌}
use Rattle.sweep_table.specs.Reach.{IsReachBelow}
use Rattle.sweep_table.proofs.reach.lengthen_all.Given as goal

abbrev pub invariant-loop-cell : goal.invariant-loop-cell
invariant-loop-cell l = IsReachBelow l.growth.inst.now l.growth.train l.growth.after.now l.growth.count l.round (2 * l.cell) l.reach
