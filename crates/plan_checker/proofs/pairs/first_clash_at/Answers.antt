-- Why `first_clash_at` does what its contract says.
use Rattle.std.proofs.Common.{arith}
use Rattle.plan_checker.proofs.ClashLemmas.{all_apart, first_pair}
use Rattle.plan_checker.proofs.pairs.first_clash_at.Goals as goal

pub returns-in-Some : goal.returns-in-Some
returns-in-Some c = first_pair c.args.traffic.now _ _ _ c.loop-a.invariant c.in-Some.ensures

pub returns : goal.returns
returns c = all_apart c.args.traffic.now _ c.loop-a.a (omega (arith, c.requires.for_each_train)) c.loop-a.invariant
