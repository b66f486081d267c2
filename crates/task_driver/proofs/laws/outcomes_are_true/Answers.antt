-- Why `outcomes_are_true` does what its contract says.
use Rattle.task_driver.proofs.Truth.{outcomes_true, refutations_true}
use Rattle.task_driver.proofs.laws.outcomes_are_true.Goals as goal

pub returns-clause-outcomes : goal.returns-clause-outcomes
returns-clause-outcomes c p = outcomes_true p c.refutations_are_sound.ensures (λ gaps tables. c.refuted_tasks_are_impossible.ensures.given p gaps tables p.kept) (λ gaps tables. c.refuted_tasks_are_impossible.ensures.free p gaps tables)

pub returns-clause-refutations : goal.returns-clause-refutations
returns-clause-refutations c p = refutations_true p c.refutations_are_sound.ensures (λ gaps tables. c.refuted_tasks_are_impossible.ensures.given p gaps tables p.kept) (λ gaps tables. c.refuted_tasks_are_impossible.ensures.free p gaps tables)
