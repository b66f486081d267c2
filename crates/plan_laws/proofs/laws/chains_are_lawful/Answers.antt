-- Why `chains_are_lawful` does what its contract says.
use Rattle.plan_laws.proofs.Lawful.{plan_is_lawful}
use Rattle.plan_laws.proofs.laws.chains_are_lawful.Goals as goal

pub returns : goal.returns
returns c = plan_is_lawful
