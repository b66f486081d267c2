-- Why `History::give` does what its contract says.
use Rattle.derivation_log.specs.Steps.{derived_steps}
use Rattle.search_history.proofs.HistoryLemmas.{history_unit, events_unit}
use Rattle.search_history.proofs.history.History.give.Goals as goal

pub invariant_of-self-2 : goal.invariant_of-self-2
invariant_of-self-2 c = history_unit c.self.inside.turns.items c.push.new.self.items (derived_steps c.self.inside.log.steps) c.self.inside.count c.args.lit c.in_ok-push.ensures.items c.self.invariant

pub returns-clause-ok : goal.returns-clause-ok
returns-clause-ok c = events_unit c.self.inside.turns.items c.push.new.self.items (derived_steps c.self.inside.log.steps) c.self.inside.count c.args.lit c.args.self.now c.in_ok-push.ensures.items c.self.invariant c.self.view_is
