-- Why `counts_bound_layouts` does what its contract says.
use Rattle.plan_laws.proofs.Theorems.{count_tells}
use Rattle.plan_laws.proofs.laws.counts_bound_layouts.Goals as goal

pub returns : goal.returns
returns c = count_tells
