-- Why `History::add` does what its contract says.
use Rattle.std.proofs.Common.{List, [], ◌∷◌, ◌++◌, ap, ◌∙◌, arith}
use Rattle.std.specs.Prelude.{Option, None}
use Rattle.sat_core.specs.declared.literal.Lit.{Lit}
use Rattle.derivation_log.specs.Steps.{derived_steps}
use Rattle.search_history.proofs.HistoryLemmas.{adds_told, history_step, events_step}
use Rattle.search_history.proofs.history.History.add.Goals as goal

pub overflow_add-self : goal.overflow_add-self
overflow_add-self c = omega (arith, c.requires.counted, adds_told c.self.inside.turns.items (derived_steps c.self.inside.log.steps) c.self.inside.count c.args.self.now c.self.invariant c.self.view_is)

pub invariant_of-self-2 : goal.invariant_of-self-2
invariant_of-self-2 c = history_step c.self.inside.turns.items c.push_reserved.new.self.items c.self.inside.log.steps c.push.new.self c.self.inside.count _ (c.push_reserved.ensures.items ∙ ap (λ (h : List (Option Lit)). h ++ None ∷ []) c.reserve.ensures.items) c.in_ok-push.ensures.ok c.self.invariant

pub returns-clause-ok : goal.returns-clause-ok
returns-clause-ok c = events_step c.self.inside.turns.items c.push_reserved.new.self.items c.self.inside.log.steps c.push.new.self c.self.inside.count _ c.args.self.now (c.push_reserved.ensures.items ∙ ap (λ (h : List (Option Lit)). h ++ None ∷ []) c.reserve.ensures.items) c.in_ok-push.ensures.ok c.self.invariant c.self.view_is
