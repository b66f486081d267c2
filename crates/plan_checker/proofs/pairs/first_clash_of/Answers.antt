-- Why `first_clash_of` does what its contract says.
use Rattle.std.proofs.Common.{arith}
use Rattle.plan_checker.proofs.ClashLemmas.{apart_from_later}
use Rattle.plan_checker.proofs.pairs.first_clash_of.Goals as goal

pub returns : goal.returns
returns c = apart_from_later c.args.traffic.now _ _ c.loop-b.b (omega (arith, c.requires.sound.for_each_train)) c.loop-b.invariant
