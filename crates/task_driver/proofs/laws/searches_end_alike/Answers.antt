-- Why `searches_end_alike` does what its contract says.
use Rattle.task_driver.proofs.AlikeLemmas.{searches_alike}
use Rattle.task_driver.proofs.laws.searches_end_alike.Goals as goal

pub returns : goal.returns
returns c p = searches_alike p (c.formulas_are_one.ensures.refusals p) (c.formulas_are_one.ensures.formula p)
