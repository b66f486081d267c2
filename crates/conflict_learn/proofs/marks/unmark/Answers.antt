-- Why `unmark` does what its contract says.
use Rattle.std.proofs.Common.{refl, arith, ◌∙◌}
use Rattle.std.proofs.lemmas.List.{length-set}
use Rattle.conflict_learn.proofs.MarkLemmas.{left_first, left_more, left_none}
use Rattle.conflict_learn.proofs.marks.unmark.Goals as goal

pub loop-var-init : goal.loop-var-init
loop-var-init c = (refl, left_first c.args.flags.now c.args.touched.now c.requires.among)

pub loop-var-preserved : goal.loop-var-preserved
loop-var-preserved c = (
  length-set c.loop-var.flags _ _ ∙ c.loop-var.invariant.0,
  left_more c.loop-var.flags c.args.touched.now c.loop-var.var-index _ c.loop-var-test.true (omega (arith, c.requires.in_range c.loop-var.var-index (record { 0 = 0 }) c.loop-var-test.true, c.loop-var.invariant.0)) c.loop-var.invariant.1,
)

pub returns-clause-none : goal.returns-clause-none
returns-clause-none c = left_none c.loop-var.flags c.args.touched.now c.loop-var.var-index (omega arith) c.loop-var.invariant.1
