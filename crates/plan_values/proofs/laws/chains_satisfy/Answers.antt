-- Why `chains_satisfy` does what its contract says.
use Rattle.plan_values.proofs.Satisfying.{runs_have_chains}
use Rattle.plan_values.proofs.Theorems.{given_satisfied, free_satisfied, values_mean}
use Rattle.plan_values.proofs.laws.chains_satisfy.Goals as goal

pub returns : goal.returns
returns c = record {
  given = λ p gaps tables borders plan chains. given_satisfied p gaps tables borders plan chains (c.separated_where_candidates_cut.ensures p borders gaps);
  free = λ p gaps tables borders plan chains most. free_satisfied p gaps tables borders plan chains most (c.separated_where_candidates_cut.ensures p borders gaps) (λ values. c.valuations_tell_chains.ensures.given values p gaps tables borders);
  meanings = λ p gaps tables borders plan chains more. values_mean p gaps tables borders plan chains more (c.separated_where_candidates_cut.ensures p borders gaps);
  chains = λ p tables borders plan. runs_have_chains p tables borders plan;
}
