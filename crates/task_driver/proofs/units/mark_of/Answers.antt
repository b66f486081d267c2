-- Why the loop of `mark_of` goes on as it should.
use Rattle.std.proofs.Common.{◌-◌, arith}
use Rattle.task_driver.proofs.ChainLemmas.{hints_more}
use Rattle.task_driver.proofs.units.mark_of.Goals as goal

pub loop-step-preserved : goal.loop-step-preserved
loop-step-preserved c = rw c.in_ok-push.ensures.items
    (hints_more c.args.var_map.now.before_order c.args.clauses c.args.last (c.args.unit.most - c.args.last) c.loop-step.step c.loop-step.hints.items _ c.order_clause.result
    c.loop-step-test.true (omega (arith, c.order_clause.ensures, c.requires.after, c.loop-step-test.true)) c.loop-step.invariant)
