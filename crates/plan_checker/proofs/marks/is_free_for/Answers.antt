-- Why `is_free_for` does what its contract says.
use Rattle.plan_checker.proofs.MarkLemmas.{free_if_same}
use Rattle.plan_checker.proofs.marks.is_free_for.Goals as goal

pub returns-else-mark-step : goal.returns-else-mark-step
returns-else-mark-step c = free_if_same c.in-Some.mark _ _ _ c.in-Some.is c.if-mark-step.false
