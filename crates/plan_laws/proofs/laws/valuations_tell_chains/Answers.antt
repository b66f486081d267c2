-- Why `valuations_tell_chains` does what its contract says.
use Rattle.plan_laws.proofs.Theorems.{free_task_tells, given_task_tells}
use Rattle.plan_laws.proofs.laws.valuations_tell_chains.Goals as goal

pub returns : goal.returns
returns c = record { free = free_task_tells c.separated_where_candidates_cut.ensures; given = given_task_tells c.separated_where_candidates_cut.ensures }
