-- Why `steps_of` does what its contract says.
use Rattle.std.proofs.Common.{◌∙◌, sym, arith}
use Rattle.clause_encoder.proofs.MarkLemmas.{rows_none, pushed_more}
use Rattle.clause_encoder.proofs.build.steps_of.Goals as goal

pub loop-step-init : goal.loop-step-init
loop-step-init c = (c.new-numbers.ensures.items ∙ sym (rows_none _), omega arith)

pub loop-step-preserved : goal.loop-step-preserved
loop-step-preserved c = (
  pushed_more _ c.loop-step.step _ _ _ c.loop-step.invariant.0 c.in_ok-push.ensures.items c.loop-step.invariant.1,
  omega (arith, c.loop-step.invariant.1, c.size_of-next.ensures.more),
)
