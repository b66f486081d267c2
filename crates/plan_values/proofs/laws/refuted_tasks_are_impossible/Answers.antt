-- Why `refuted_tasks_are_impossible` does what its contract says.
use Rattle.plan_values.proofs.Exact.{given_refutes, free_refutes}
use Rattle.plan_values.proofs.laws.refuted_tasks_are_impossible.Goals as goal

pub returns : goal.returns
returns c = record {
  given = λ p gaps tables borders. given_refutes p gaps tables borders (c.tasks_are_exact.ensures.given p gaps tables borders);
  free = λ p gaps tables most. free_refutes p gaps tables most (c.tasks_are_exact.ensures.free p gaps tables most);
}
