-- Why `sweep_breach` does what its contract says.
use Rattle.std.proofs.Common.{rules}
use Rattle.vss_lists.specs.Orders.{IsFirstBroken}
use Rattle.plan_checker.proofs.RunLemmas.{fault_is_breach}
use Rattle.plan_checker.proofs.sweeps.sweep_breach.Goals as goal

pub returns-in-Some : goal.returns-in-Some
returns-in-Some c =
    rw c.breach_of.ensures (fault_is_breach c.args.inst.now c.args.id c.args.train.now c.args.run.now c.args.place c.args.sweep.now c.in-Some.fault
    (c.in-Some.ensures c.args.train.now c.requires.train))

pub returns-else-goes_on : goal.returns-else-goes_on
unfolding IsFirstBroken
returns-else-goes_on c = (3, search rules)
