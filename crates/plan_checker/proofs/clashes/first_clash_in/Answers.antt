-- Why `first_clash_in` does what its contract says.
use Rattle.std.proofs.Common.{arith}
use Rattle.plan_checker.proofs.ClashLemmas.{always_apart, first_step}
use Rattle.plan_checker.proofs.clashes.first_clash_in.Goals as goal

pub returns-in-Some : goal.returns-in-Some
returns-in-Some c = first_step c.args.traffic.now _ _ c.loop-step.invariant.apart c.in-Some.ensures.clash

pub returns : goal.returns
returns c = always_apart c.args.traffic.now c.loop-step.step c.requires.sound (omega arith) c.loop-step.invariant.apart
