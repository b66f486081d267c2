-- Why `meet` does what its contract says.
use Rattle.plain_solver.proofs.StepLemmas.{met_searched}
use Rattle.plain_solver.proofs.search.meet.Goals as goal

pub returns-clause-searched : goal.returns-clause-searched
returns-clause-searched c = met_searched c.args.state.now c.conflict.new.state c.args.budget.now c.spend.new.self c.requires.state c.in_ok-conflict.ensures.met c.spend.ensures
