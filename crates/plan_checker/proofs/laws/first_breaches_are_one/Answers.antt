-- Why `first_breaches_are_one` does what its contract says.
use Rattle.plan_checker.proofs.BreachLaws.{one_first_breach}
use Rattle.plan_checker.proofs.laws.first_breaches_are_one.Goals as goal

pub returns : goal.returns
returns c = one_first_breach
