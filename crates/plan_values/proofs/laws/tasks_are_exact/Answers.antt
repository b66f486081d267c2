-- Why `tasks_are_exact` does what its contract says.
use Rattle.plan_values.proofs.Exact.{given_is_exact, free_is_exact}
use Rattle.plan_values.proofs.laws.tasks_are_exact.Goals as goal

pub returns : goal.returns
returns c = record {
  given = λ p gaps tables borders. given_is_exact p gaps tables borders (c.tasks_have_chains.ensures.given p gaps tables borders) (λ plan. c.chains_are_lawful.ensures p borders tables plan);
  free = λ p gaps tables most. free_is_exact p gaps tables most (c.tasks_have_chains.ensures.free p gaps tables most) (λ borders plan. c.chains_are_lawful.ensures p borders tables plan);
}
