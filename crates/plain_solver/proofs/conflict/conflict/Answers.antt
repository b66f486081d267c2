-- Why `conflict` does what its contract says.
use Rattle.std.proofs.Common.{◌+◌, List, [], ◌∷◌, ◌++◌, refl, arith, ap, sym, ◌∙◌}
use Rattle.std.specs.Prelude.{Option, None}
use Rattle.sat_core.specs.declared.literal.Lit.{Lit}
use Rattle.plain_solver.proofs.FullLemmas.{empty_tells, some_tells}
use Rattle.plain_solver.proofs.StateLemmas.{clauses_over, conflict_of}
use Rattle.plain_solver.proofs.StepLemmas.{state_met}
use Rattle.plain_solver.proofs.conflict.conflict.Goals as goal

pub learn_with-requires-clause-over : goal.learn_with-requires-clause-over
learn_with-requires-clause-over c = clauses_over c.args.state.now.clauses.clauses c.args.state.now.trail c.requires.state.plain

pub learn_with-requires-clause-conflict : goal.learn_with-requires-clause-conflict
learn_with-requires-clause-conflict c = conflict_of c.args.state.now.clauses.clauses c.args.state.now.trail c.args.id c.requires.state.plain c.requires.conflict

pub returns-clause-state : goal.returns-clause-state
returns-clause-state c = (state_met c.args.state.now (record { clauses = c.push-2.new.self; given = c.args.state.now.given; history = c.push_reserved.new.self; log = record { steps = c.push.new.self }; trail = c.back_to.new.self; space = c.learn_with.new.space; valuation = c.args.state.now.valuation; found = c.args.state.now.found; refuted = c.is_empty-state.result }) c.in_ok-step.step (record { 0 = c.len.result + 1 }) c.in_ok-learned.learned.lits.items c.in_ok-learned.learned.hints.items c.in_ok-learned.learned.level c.requires.state c.requires.open c.in_ok-learned.ensures.learned (omega (arith, c.len.ensures)) c.in_ok-step.ensures (c.push-2.ensures.vars ∙ c.reserve.ensures.vars) (c.in-Ok.ensures.ok ∙ (ap (λ (cs : List (List Lit)). cs ++ c.as_slice-lits.result.now ∷ []) c.reserve.ensures.clauses ∙ ap (λ (ls : List Lit). c.args.state.now.clauses.clauses ++ ls ∷ []) c.as_slice-lits.ensures)) refl (c.push_reserved.ensures.items ∙ ap (λ (h : List (Option Lit)). h ++ None ∷ []) c.reserve-2.ensures.items) c.in_ok-push.ensures.ok c.back_to.ensures.vars c.back_to.ensures.cut c.back_to.ensures.read c.back_to.ensures.now c.learn_with.ensures.space refl (λ is_true. sym c.as_slice-lits.ensures ∙ empty_tells c.as_slice-lits.result.now (sym c.is_empty-state.ensures ∙ is_true)) (λ is_false same. some_tells c.as_slice-lits.result.now (sym c.is_empty-state.ensures ∙ is_false) (c.as_slice-lits.ensures ∙ same)) c.requires.numbered).0

pub returns-clause-met : goal.returns-clause-met
returns-clause-met c = (state_met c.args.state.now (record { clauses = c.push-2.new.self; given = c.args.state.now.given; history = c.push_reserved.new.self; log = record { steps = c.push.new.self }; trail = c.back_to.new.self; space = c.learn_with.new.space; valuation = c.args.state.now.valuation; found = c.args.state.now.found; refuted = c.is_empty-state.result }) c.in_ok-step.step (record { 0 = c.len.result + 1 }) c.in_ok-learned.learned.lits.items c.in_ok-learned.learned.hints.items c.in_ok-learned.learned.level c.requires.state c.requires.open c.in_ok-learned.ensures.learned (omega (arith, c.len.ensures)) c.in_ok-step.ensures (c.push-2.ensures.vars ∙ c.reserve.ensures.vars) (c.in-Ok.ensures.ok ∙ (ap (λ (cs : List (List Lit)). cs ++ c.as_slice-lits.result.now ∷ []) c.reserve.ensures.clauses ∙ ap (λ (ls : List Lit). c.args.state.now.clauses.clauses ++ ls ∷ []) c.as_slice-lits.ensures)) refl (c.push_reserved.ensures.items ∙ ap (λ (h : List (Option Lit)). h ++ None ∷ []) c.reserve-2.ensures.items) c.in_ok-push.ensures.ok c.back_to.ensures.vars c.back_to.ensures.cut c.back_to.ensures.read c.back_to.ensures.now c.learn_with.ensures.space refl (λ is_true. sym c.as_slice-lits.ensures ∙ empty_tells c.as_slice-lits.result.now (sym c.is_empty-state.ensures ∙ is_true)) (λ is_false same. some_tells c.as_slice-lits.result.now (sym c.is_empty-state.ensures ∙ is_false) (c.as_slice-lits.ensures ∙ same)) c.requires.numbered).1
