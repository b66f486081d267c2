-- Why `successions_of` does what its contract says.
use Rattle.sweep_table.proofs.SuccessionLemmas.{successions_permuted}
use Rattle.sweep_table.proofs.successors.successions_of.Goals as goal

pub returns-clause-are : goal.returns-clause-are
returns-clause-are c = successions_permuted _ _ _ c.sort_successions.ensures.same c.in_ok-successions.ensures
