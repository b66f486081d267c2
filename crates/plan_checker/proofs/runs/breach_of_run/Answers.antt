-- Why `breach_of_run` does what its contract says.
use Rattle.std.proofs.Common.{rules}
use Rattle.vss_lists.specs.Orders.{IsFirstBroken}
use Rattle.plan_checker.proofs.JudgingLemmas.{is_run}
use Rattle.plan_checker.proofs.runs.breach_of_run.Goals as goal

pub returns-then-not-enters : goal.returns-then-not-enters
unfolding IsFirstBroken
returns-then-not-enters c = (0, search rules)

pub returns-in-Some : goal.returns-in-Some
unfolding IsFirstBroken
returns-in-Some c = (1, search rules)

pub returns-then-not-arrives : goal.returns-then-not-arrives
unfolding IsFirstBroken
returns-then-not-arrives c = (2, search rules)

pub returns-in-None : goal.returns-in-None
returns-in-None c = is_run c.args.inst.now c.args.id c.args.train.now c.args.run.now (search rules) c.in_default.ensures (search rules) (search rules)

pub returns-in-Some-2 : goal.returns-in-Some-2
unfolding IsFirstBroken
returns-in-Some-2 c = (3, search rules)
