-- Why `History::log` does what its contract says.
use Rattle.derivation_log.specs.Steps.{derived_steps}
use Rattle.search_history.proofs.HistoryLemmas.{log_told}
use Rattle.search_history.proofs.history.History.log.Goals as goal

pub returns : goal.returns
returns c = log_told c.self.inside.turns.items (derived_steps c.self.inside.log.steps) c.self.inside.count c.args.self.now c.self.invariant c.self.view_is
