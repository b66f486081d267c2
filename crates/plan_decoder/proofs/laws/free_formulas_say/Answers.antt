-- Why `free_formulas_say` does what its contract says.
use Rattle.plan_decoder.proofs.TaskLemmas.{free_formula_says}
use Rattle.plan_decoder.proofs.laws.free_formulas_say.Goals as goal

pub returns : goal.returns
returns c = free_formula_says
