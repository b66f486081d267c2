-- Why `History::drop_clauses` does what its contract says.
use Rattle.std.proofs.Common.{◌≡◌, ℕ, ◌+◌, List, [], ◌∷◌, ◌++◌, ap, subst, ◌∙◌, arith}
use Rattle.std.specs.Prelude.{Option, None}
use Rattle.sat_core.specs.declared.literal.Lit.{Lit}
use Rattle.derivation_log.specs.Steps.{derived_steps}
use Rattle.search_history.specs.Histories.{IsHistory}
use Rattle.search_history.proofs.HistoryLemmas.{history_step, events_step}
use Rattle.search_history.proofs.history.History.drop_clauses.Goals as goal

none_more : (n : ℕ) → n + 0 ≡ n
none_more n = omega arith

pub invariant_of-self-2 : goal.invariant_of-self-2
invariant_of-self-2 c = subst (λ (n : ℕ). IsHistory c.push_reserved.new.self.items (derived_steps c.push.new.self) n) (none_more c.self.inside.count) (history_step c.self.inside.turns.items c.push_reserved.new.self.items c.self.inside.log.steps c.push.new.self c.self.inside.count _ (c.push_reserved.ensures.items ∙ ap (λ (h : List (Option Lit)). h ++ None ∷ []) c.reserve.ensures.items) c.in_ok-push.ensures.ok c.self.invariant)

pub returns-clause-ok : goal.returns-clause-ok
returns-clause-ok c = events_step c.self.inside.turns.items c.push_reserved.new.self.items c.self.inside.log.steps c.push.new.self c.self.inside.count _ c.args.self.now (c.push_reserved.ensures.items ∙ ap (λ (h : List (Option Lit)). h ++ None ∷ []) c.reserve.ensures.items) c.in_ok-push.ensures.ok c.self.invariant c.self.view_is
