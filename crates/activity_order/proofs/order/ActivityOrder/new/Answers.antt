-- Why `ActivityOrder::new` does what its contract says.
use Rattle.std.proofs.Common.{arith}
use Rattle.activity_order.proofs.PlaceLemmas.{waits-counted}
use Rattle.activity_order.proofs.order.ActivityOrder.new.Goals as goal

pub returns-clause-waits : goal.returns-clause-waits
returns-clause-waits c = waits-counted c.in_ok-counted-2.field-0.items c.args.vars (omega (arith, c.in_ok-counted-2.ensures.long)) c.in_ok-counted-2.ensures.each
