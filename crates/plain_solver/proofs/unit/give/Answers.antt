-- Why `give` does what its contract says.
use Rattle.std.proofs.Common.{List, [], ◌∷◌, ◌++◌, refl, ap, ◌∙◌}
use Rattle.std.specs.Prelude.{Option, Some}
use Rattle.sat_core.specs.declared.literal.Lit.{Lit}
use Rattle.plain_solver.proofs.StepLemmas.{state_unit, unit_woven}
use Rattle.plain_solver.proofs.unit.give.Goals as goal

pub returns-clause-state : goal.returns-clause-state
returns-clause-state c = state_unit c.args.state.now (record { clauses = c.push_fixed.new.self; given = c.args.state.now.given; history = c.push_reserved.new.self; log = c.args.state.now.log; trail = c.back_to.new.self; space = c.args.state.now.space; valuation = c.args.state.now.valuation; found = c.args.state.now.found; refuted = c.args.state.now.refuted }) c.args.lit c.requires.state c.push_fixed.ensures.vars c.in_ok-push_fixed.ensures.ok refl (c.push_reserved.ensures.items ∙ ap (λ (h : List (Option Lit)). h ++ Some c.args.lit ∷ []) c.reserve.ensures.items) refl c.back_to.ensures.vars c.back_to.ensures.cut c.back_to.ensures.read c.back_to.ensures.now refl refl refl c.requires.over c.requires.numbered

pub returns-clause-ok : goal.returns-clause-ok
returns-clause-ok c = unit_woven c.args.state.now (record { clauses = c.push_fixed.new.self; given = c.args.state.now.given; history = c.push_reserved.new.self; log = c.args.state.now.log; trail = c.back_to.new.self; space = c.args.state.now.space; valuation = c.args.state.now.valuation; found = c.args.state.now.found; refuted = c.args.state.now.refuted }) c.args.lit c.requires.state (c.push_reserved.ensures.items ∙ ap (λ (h : List (Option Lit)). h ++ Some c.args.lit ∷ []) c.reserve.ensures.items) refl
