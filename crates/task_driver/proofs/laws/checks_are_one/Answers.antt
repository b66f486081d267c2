-- Why `checks_are_one` does what its contract says.
use Rattle.task_driver.proofs.AlikeLemmas.{checks_one}
use Rattle.task_driver.proofs.laws.checks_are_one.Goals as goal

pub returns : goal.returns
returns c p = checks_one p (c.formulas_are_one.ensures.tables p) (c.formulas_are_one.ensures.clauses p) (c.formulas_are_one.ensures.refusals p) (c.formulas_are_one.ensures.formula p) c.verdicts_are_one.ensures.one_verdict
