-- Why `search_fewest` does what its contract says.
use Rattle.std.proofs.Common.{◌≡◌, ◌∙◌, ◌-◌, ◌+◌, ℕ, length, sym, ap, subst, arith}
use Rattle.sat_core.specs.Clauses.{IsOver}
use Rattle.border_counter.specs.Counter.{not_at_least_lit}
use Rattle.derivation_log.specs.declared.step.Bound.TheVariants.{AtMost}
use Rattle.task_driver.specs.BoundUnits.{bounds_in}
use Rattle.task_driver.proofs.CounterLemmas.{literal_over}
use Rattle.task_driver.proofs.EncodingLemmas.{formulas_in, keeps_tables, satisfies_task}
use Rattle.task_driver.proofs.SearchingLemmas.{begin_on, found_on, layout_on, next_on, searched_on, units_counted}
use Rattle.task_driver.proofs.SessionLemmas.{spent_underway}
use Rattle.task_driver.proofs.fewest.search_fewest.Goals as goal

pub bounds-init : goal.bounds-init
bounds-init g c = rw (c.new-left.ensures, c.new-units.ensures.items)
    (begin_on c.args.inst.now c.args.formula c.args.map.now c.args.budget (g.S.Solver.solving c.in_ok-solver.solver) c.len-clauses.result c.candidate_count-most.result c.requires.encoded (omega (arith, c.requires.budget)) (omega (arith, c.requires.budget))
    c.in_ok-solver.ensures.vars c.in_ok-solver.ensures.formula c.in_ok-solver.ensures.nothing_yet c.len-clauses.ensures c.candidate_count-most.ensures.value)

pub solve-requires-clause-numbered : goal.solve-requires-clause-numbered
solve-requires-clause-numbered g c = omega (arith, c.bounds.invariant.numbers, c.parts-parts.ensures.rules.few_candidates)

pub returns-in-Spent : goal.returns-in-Spent
returns-in-Spent g c =
    let shown = rw c.in-Spent.is at c.in_ok-solve.ensures.answer in
    let search = searched_on (formulas_in c.args.inst.now (AtMost (length c.args.inst.now.candidates)) c.args.formula c.args.map.now c.bounds.invariant.encoding) c.args.inst.now c.args.map.now c.args.budget (g.S.Solver.solving c.bounds.solver) (g.S.Solver.solving c.solve.new.self) c.bounds.left c.solve.new.budget c.bounds.units.items c.bounds.best c.bounds.invariant.search c.in_ok-solve.ensures.searched in
    record {
      formulas = formulas_in c.args.inst.now (AtMost (length c.args.inst.now.candidates)) c.args.formula c.args.map.now c.bounds.invariant.encoding;
      are = search.formulas;
      shows = spent_underway (formulas_in c.args.inst.now (AtMost (length c.args.inst.now.candidates)) c.args.formula c.args.map.now c.bounds.invariant.encoding) c.args.inst.now c.args.budget (g.S.Solver.solving c.solve.new.self) c.solve.new.budget (bounds_in c.bounds.units.items) c.bounds.best search.underway shown.0 shown.1 shown.2;
    }

pub refuted-requires-clause-search : goal.refuted-requires-clause-search
refuted-requires-clause-search g c = (
  formulas_in c.args.inst.now (AtMost (length c.args.inst.now.candidates)) c.args.formula c.args.map.now c.bounds.invariant.encoding,
  c.args.budget,
  c.solve.new.budget,
  rw c.as_slice.ensures.value
      (searched_on (formulas_in c.args.inst.now (AtMost (length c.args.inst.now.candidates)) c.args.formula c.args.map.now c.bounds.invariant.encoding) c.args.inst.now c.args.map.now c.args.budget (g.S.Solver.solving c.bounds.solver) (g.S.Solver.solving c.solve.new.self) c.bounds.left c.solve.new.budget c.bounds.units.items c.bounds.best c.bounds.invariant.search c.in_ok-solve.ensures.searched),
)

pub refuted-requires-clause-clauses : goal.refuted-requires-clause-clauses
refuted-requires-clause-clauses g c = c.bounds.invariant.count ∙ ap length (sym c.in_ok-solve.ensures.searched.same_formula)

pub refuted-requires-clause-most : goal.refuted-requires-clause-most
refuted-requires-clause-most g c = rw c.as_slice.ensures.value c.bounds.invariant.most_is

pub refuted-requires-clause-room : goal.refuted-requires-clause-room
refuted-requires-clause-room g c =
    omega (
      arith,
      c.bounds.invariant.numbers,
      c.bounds.invariant.count,
      c.parts-parts.ensures.rules.few_candidates,
      ap length c.as_slice.ensures.value,
      units_counted (formulas_in c.args.inst.now (AtMost (length c.args.inst.now.candidates)) c.args.formula c.args.map.now c.bounds.invariant.encoding) c.args.inst.now c.args.map.now c.args.budget (g.S.Solver.solving c.bounds.solver) c.bounds.left c.bounds.units.items c.bounds.best c.bounds.invariant.search,
    )

pub refuted-requires-clause-few : goal.refuted-requires-clause-few
refuted-requires-clause-few g c = omega (arith, c.bounds.invariant.numbers, c.bounds.invariant.count, c.parts-parts.ensures.rules.few_candidates)

pub decode-requires-clause-kept : goal.decode-requires-clause-kept
decode-requires-clause-kept g c = keeps_tables c.args.inst.now (AtMost (length c.args.inst.now.candidates)) c.args.formula c.args.map.now c.requires.encoded

pub decode-requires-clause-satisfied : goal.decode-requires-clause-satisfied
decode-requires-clause-satisfied g c =
    let shown = rw c.in-Sat.is at c.in_ok-solve.ensures.answer in
    let found = found_on c.args.inst.now c.args.formula c.args.map.now c.args.budget (g.S.Solver.solving c.bounds.solver) (g.S.Solver.solving c.solve.new.self) c.bounds.left c.solve.new.budget c.bounds.units.items c.bounds.best c.len-clauses.result c.bounds.most
    c.valuation.result.now.values c.bounds.invariant c.in_ok-solve.ensures.searched shown.0 c.valuation.ensures in
    satisfies_task (AtMost (length c.args.inst.now.candidates)) c.args.inst.now c.args.formula c.args.map.now c.valuation.result.now.values c.free_formulas_say.ensures c.parts-parts.ensures.rules c.requires.encoded found.0 found.1

pub overflow_cast-most : goal.overflow_cast-most
overflow_cast-most g c =
    let shown = rw c.in-Sat.is at c.in_ok-solve.ensures.answer in
    let counts = layout_on c.args.inst.now c.args.formula c.args.map.now c.args.budget (g.S.Solver.solving c.bounds.solver) (g.S.Solver.solving c.solve.new.self) c.bounds.left c.solve.new.budget c.bounds.units.items c.bounds.best c.len-clauses.result c.bounds.most
    c.valuation.result.now.values c.bounds.invariant c.in_ok-solve.ensures.searched shown.0 c.valuation.ensures c.free_formulas_say.ensures c.parts-parts.ensures.rules
    c.in_ok-layout-in-Sat.layout c.in_ok-layout-in-Sat.plan c.in_ok-layout-in-Sat.ensures.lawful c.in_ok-layout-in-Sat.ensures.count in
    let count : length c.borders-count.result.now ≡ length c.in_ok-layout-in-Sat.layout = ap length c.borders-count.ensures in
    omega (arith, count, counts.1, c.parts-parts.ensures.rules.few_candidates)

pub overflow_sub-most : goal.overflow_sub-most
overflow_sub-most g c =
    let shown = rw c.in-Sat.is at c.in_ok-solve.ensures.answer in
    let counts = layout_on c.args.inst.now c.args.formula c.args.map.now c.args.budget (g.S.Solver.solving c.bounds.solver) (g.S.Solver.solving c.solve.new.self) c.bounds.left c.solve.new.budget c.bounds.units.items c.bounds.best c.len-clauses.result c.bounds.most
    c.valuation.result.now.values c.bounds.invariant c.in_ok-solve.ensures.searched shown.0 c.valuation.ensures c.free_formulas_say.ensures c.parts-parts.ensures.rules
    c.in_ok-layout-in-Sat.layout c.in_ok-layout-in-Sat.plan c.in_ok-layout-in-Sat.ensures.lawful c.in_ok-layout-in-Sat.ensures.count in
    let count : length c.borders-count.result.now ≡ length c.in_ok-layout-in-Sat.layout = ap length c.borders-count.ensures in
    let kept : length c.kept-kept.result.now ≡ length c.args.inst.now.kept = ap length c.kept-kept.ensures in
    let other = c.if-count-kept.false in
    omega (arith, count, counts.2, kept, other)

pub give-requires-clause-below : goal.give-requires-clause-below
give-requires-clause-below g c =
    let shown = rw c.in-Sat.is at c.in_ok-solve.ensures.answer in
    let counts = layout_on c.args.inst.now c.args.formula c.args.map.now c.args.budget (g.S.Solver.solving c.bounds.solver) (g.S.Solver.solving c.solve.new.self) c.bounds.left c.solve.new.budget c.bounds.units.items c.bounds.best c.len-clauses.result c.bounds.most
    c.valuation.result.now.values c.bounds.invariant c.in_ok-solve.ensures.searched shown.0 c.valuation.ensures c.free_formulas_say.ensures c.parts-parts.ensures.rules
    c.in_ok-layout-in-Sat.layout c.in_ok-layout-in-Sat.plan c.in_ok-layout-in-Sat.ensures.lawful c.in_ok-layout-in-Sat.ensures.count in
    let count : length c.borders-count.result.now ≡ length c.in_ok-layout-in-Sat.layout = ap length c.borders-count.ensures in
    let kept : length c.kept-kept.result.now ≡ length c.args.inst.now.kept = ap length c.kept-kept.ensures in
    let other = c.if-count-kept.false in
    omega (arith, count, counts.1, counts.2, kept, other, c.bounds.invariant.search.counter.candidates)

pub give-requires-clause-over : goal.give-requires-clause-over
give-requires-clause-over g c =
    let shown = rw c.in-Sat.is at c.in_ok-solve.ensures.answer in
    let counts = layout_on c.args.inst.now c.args.formula c.args.map.now c.args.budget (g.S.Solver.solving c.bounds.solver) (g.S.Solver.solving c.solve.new.self) c.bounds.left c.solve.new.budget c.bounds.units.items c.bounds.best c.len-clauses.result c.bounds.most
    c.valuation.result.now.values c.bounds.invariant c.in_ok-solve.ensures.searched shown.0 c.valuation.ensures c.free_formulas_say.ensures c.parts-parts.ensures.rules
    c.in_ok-layout-in-Sat.layout c.in_ok-layout-in-Sat.plan c.in_ok-layout-in-Sat.ensures.lawful c.in_ok-layout-in-Sat.ensures.count in
    let count : length c.borders-count.result.now ≡ length c.in_ok-layout-in-Sat.layout = ap length c.borders-count.ensures in
    let kept : length c.kept-kept.result.now ≡ length c.args.inst.now.kept = ap length c.kept-kept.ensures in
    let other = c.if-count-kept.false in
    let search = c.bounds.invariant.search in
    subst (λ (n : ℕ). IsOver n (not_at_least_lit c.args.map.now.first_of_count c.args.map.now.candidates (length c.borders-count.result.now - 1 + 1))) (sym (c.in_ok-solve.ensures.searched.same_vars ∙ search.underway.vars))
    (literal_over c.args.inst.now _ c.args.map.now (length c.borders-count.result.now - 1) search.counter (omega (arith, count, counts.1, counts.2, kept, other)))

pub bounds-smaller : goal.bounds-smaller
bounds-smaller g c =
    let shown = rw c.in-Sat.is at c.in_ok-solve.ensures.answer in
    let counts = layout_on c.args.inst.now c.args.formula c.args.map.now c.args.budget (g.S.Solver.solving c.bounds.solver) (g.S.Solver.solving c.solve.new.self) c.bounds.left c.solve.new.budget c.bounds.units.items c.bounds.best c.len-clauses.result c.bounds.most
    c.valuation.result.now.values c.bounds.invariant c.in_ok-solve.ensures.searched shown.0 c.valuation.ensures c.free_formulas_say.ensures c.parts-parts.ensures.rules
    c.in_ok-layout-in-Sat.layout c.in_ok-layout-in-Sat.plan c.in_ok-layout-in-Sat.ensures.lawful c.in_ok-layout-in-Sat.ensures.count in
    let count : length c.borders-count.result.now ≡ length c.in_ok-layout-in-Sat.layout = ap length c.borders-count.ensures in
    let kept : length c.kept-kept.result.now ≡ length c.args.inst.now.kept = ap length c.kept-kept.ensures in
    let other = c.if-count-kept.false in
    omega (arith, count, counts.0, counts.2, kept, other)

pub bounds-preserved : goal.bounds-preserved
bounds-preserved g c =
    let shown = rw c.in-Sat.is at c.in_ok-solve.ensures.answer in
    let counts = layout_on c.args.inst.now c.args.formula c.args.map.now c.args.budget (g.S.Solver.solving c.bounds.solver) (g.S.Solver.solving c.solve.new.self) c.bounds.left c.solve.new.budget c.bounds.units.items c.bounds.best c.len-clauses.result c.bounds.most
    c.valuation.result.now.values c.bounds.invariant c.in_ok-solve.ensures.searched shown.0 c.valuation.ensures c.free_formulas_say.ensures c.parts-parts.ensures.rules
    c.in_ok-layout-in-Sat.layout c.in_ok-layout-in-Sat.plan c.in_ok-layout-in-Sat.ensures.lawful c.in_ok-layout-in-Sat.ensures.count in
    let count : length c.borders-count.result.now ≡ length c.in_ok-layout-in-Sat.layout = ap length c.borders-count.ensures in
    let kept : length c.kept-kept.result.now ≡ length c.args.inst.now.kept = ap length c.kept-kept.ensures in
    let other = c.if-count-kept.false in
    rw c.in_ok-push-in-Sat.ensures.items
    (next_on c.args.inst.now c.args.formula c.args.map.now c.args.budget (g.S.Solver.solving c.bounds.solver) (g.S.Solver.solving c.solve.new.self) (g.S.Solver.solving c.give.new.solver) c.bounds.left c.solve.new.budget c.bounds.units.items c.bounds.best
    c.len-clauses.result c.bounds.most (length c.borders-count.result.now - 1) c.in_ok-give-in-Sat.field-0 c.in_ok-layout-in-Sat.layout c.in_ok-layout-in-Sat.plan
    c.bounds.invariant c.in_ok-solve.ensures.searched shown.1 c.in_ok-solve.ensures.numbers c.in_ok-give-in-Sat.ensures.vars c.in_ok-give-in-Sat.ensures.formula c.in_ok-give-in-Sat.ensures.events c.in_ok-give-in-Sat.ensures.sound c.in_ok-give-in-Sat.ensures.numbers
    c.in_ok-give-in-Sat.ensures.id c.in_ok-give-in-Sat.ensures.most (omega (arith, count, counts.0, counts.2, kept, other)) (omega (arith, count, counts.1, counts.2, kept, other)) (omega (arith, count, counts.2, kept, other)) (omega (arith, count, counts.2, kept, other))
    c.in_ok-layout-in-Sat.ensures.lawful)
