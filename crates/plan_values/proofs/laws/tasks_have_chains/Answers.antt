-- Why `tasks_have_chains` does what its contract says.
use Rattle.plan_values.proofs.Exact.{given_has_chains, free_has_chains}
use Rattle.plan_values.proofs.laws.tasks_have_chains.Goals as goal

pub returns : goal.returns
returns c = record {
  given = λ p gaps tables borders. given_has_chains p gaps tables borders (λ values. c.valuations_tell_chains.ensures.given values p gaps tables borders) (λ plan. c.chains_satisfy.ensures.chains p tables borders plan) (λ plan chains. c.chains_satisfy.ensures.given p gaps tables borders plan chains);
  free = λ p gaps tables most. free_has_chains p gaps tables most (λ values. c.valuations_tell_chains.ensures.free values p gaps tables) (λ values. c.counts_bound_layouts.ensures values p tables most) (λ borders plan. c.chains_satisfy.ensures.chains p tables borders plan) (λ borders plan chains. c.chains_satisfy.ensures.free p gaps tables borders plan chains most);
}
