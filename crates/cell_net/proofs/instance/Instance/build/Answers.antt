-- Why `Instance::build` does what its contract says.
use Rattle.cell_net.proofs.RuleLemmas.{have_places}
use Rattle.cell_net.proofs.instance.Instance.build.Goals as goal

pub index_of-requires-clause-joins : goal.index_of-requires-clause-joins
index_of-requires-clause-joins c = have_places c.args.parts c.in_ok-test_rules.ensures.few_cells c.in_ok-test_rules.ensures.joins
