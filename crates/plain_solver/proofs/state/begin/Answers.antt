-- Why `begin` does what its contract says.
use Rattle.std.proofs.Common.{false, refl, ap, subst, arith, ◌∙◌}
use Rattle.std.specs.Prelude.{length}
use Rattle.std.proofs.lemmas.List.{length-replicate}
use Rattle.search_trail.specs.Trails.{IsTrail}
use Rattle.plain_solver.proofs.StepLemmas.{state_begin}
use Rattle.plain_solver.proofs.state.begin.Goals as goal

pub returns-clause-state : goal.returns-clause-state
returns-clause-state c = state_begin (record { clauses = c.args.formula; given = c.len.result; history = c.new-3.result; log = record { steps = c.new-4.result }; trail = c.in_ok-trail.trail; space = c.in_ok-space.space; valuation = record { values = c.from_vec.result }; found = false; refuted = false }) c.len.ensures c.new-3.ensures.items c.new-4.ensures (subst IsTrail c.trail.view_is c.trail.invariant.laws) (c.in_ok-trail.ensures.vars ∙ c.vars.ensures.value) c.in_ok-trail.ensures.empty.0 c.in_ok-trail.ensures.empty.2 (c.in_ok-space.ensures.vars ∙ c.vars-2.ensures.value) (ap length c.from_vec.ensures ∙ (ap length (c.in_ok-values.ensures.items_if_clones_equal (λ y same. same)) ∙ (length-replicate _ false ∙ c.vars-3.ensures.value))) refl c.vars.ensures.clauses (omega (arith, c.len.ensures))
