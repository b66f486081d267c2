-- Why `mark_all` does what its contract says.
use Rattle.std.proofs.Common.{◌+◌, ◌∷◌, [], take, arith, sym, subst, ◌∙◌}
use Rattle.std.proofs.lemmas.List.{take_more}
use Rattle.conflict_learn.specs.Working.{MarksOf}
use Rattle.conflict_learn.proofs.WorkLemmas.{MarksOf-none, MarksOf-append}
use Rattle.conflict_learn.proofs.marking.mark_all.Goals as goal

pub mark-found-requires-clause-long : goal.mark-found-requires-clause-long
mark-found-requires-clause-long c = c.loop-lit.invariant.0.long ∙ c.requires.long

pub loop-lit-init : goal.loop-lit-init
loop-lit-init c = (MarksOf-none c.args.trail.now c.args.marks.now, omega arith)

pub loop-lit-preserved : goal.loop-lit-preserved
loop-lit-preserved c = (
  subst (λ ls. MarksOf c.args.trail.now c.args.marks.now c.mark-found.new.marks ls (c.loop-lit.found + c.mark-found.result)) (sym (take_more c.args.lits.now c.loop-lit.lit-index _ c.loop-lit-test.true))
      (MarksOf-append c.args.trail.now c.args.marks.now c.loop-lit.marks c.mark-found.new.marks (take c.loop-lit.lit-index c.args.lits.now) (_ ∷ []) c.loop-lit.found c.mark-found.result c.loop-lit.invariant.0 c.mark-found.ensures.marks),
  omega (arith, c.mark-found.ensures.one, c.loop-lit.invariant.1),
)
