-- Why `gather` does what its contract says.
use Rattle.sweep_table.proofs.GrowLemmas.{advances_more, advances_fault}
use Rattle.sweep_table.proofs.grow.gather.Goals as goal

pub loop-advance-preserved : goal.loop-advance-preserved
loop-advance-preserved c = (c.in-Ok.ensures.few, advances_more _ _ _ _ _ _ c.loop-advance.invariant.1 c.in-Ok.ensures.ok)

pub returns-in-Err-clause-err : goal.returns-in-Err-clause-err
returns-in-Err-clause-err c = advances_fault _ _ _ _ _ _ _ c.loop-advance-test.true c.loop-advance.invariant.1 c.in-Err.ensures.err
