-- Why `go_back` does what its contract says.
use Rattle.activity_order.proofs.WaitLemmas.{wait_cut}
use Rattle.activity_order.proofs.choosing.go_back.Goals as goal

pub returns-clause-waiting : goal.returns-clause-waiting
returns-clause-waiting c = wait_cut c.put_above.new.order c.args.trail.now c.back_to.new.self c.args.level c.put_above.ensures.waiting c.put_above.ensures.back c.back_to.ensures.vars c.back_to.ensures.cut
