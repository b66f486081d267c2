-- The steps of drawing.
use Rattle.std.proofs.Common.{arith}
use Rattle.case_maker.proofs.LoopLemmas.{state_more, state_none}
use Rattle.case_maker.proofs.draws.draw.Goals as goal

pub loop-init : goal.loop-init
loop-init c = record { value = state_none c.args.seed; below = omega arith }

pub loop-preserved : goal.loop-preserved
loop-preserved c = record { value = state_more c.args.seed c.loop.counter c.loop.x c.after-x.result c.loop.invariant.value c.after-x.ensures.value; below = c.after-x.ensures.below }
