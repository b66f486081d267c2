-- Why `decide_next` does what its contract says.
use Rattle.std.proofs.Common.{subst}
use Rattle.activity_order.specs.Choices.{NoneIsOpen}
use Rattle.activity_order.proofs.WaitLemmas.{none_open}
use Rattle.activity_order.proofs.choosing.decide_next.Goals as goal

pub returns-clause-value : goal.returns-clause-value
returns-clause-value c = (subst NoneIsOpen c.waiting.invariant.1 (none_open c.waiting.order c.waiting.trail c.waiting.invariant.0 c.in_default.ensures.value), c.waiting.invariant.1)
