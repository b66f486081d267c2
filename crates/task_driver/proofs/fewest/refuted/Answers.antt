-- Why `refuted` does what its contract says.
use Rattle.std.proofs.Common.{◌≡◌, ◌∙◌, ◌≤◌, ◌+◌, ◌-◌, ℕ, length, map, sym, ap, subst, arith}
use Rattle.std.specs.Prelude.{All}
use Rattle.std.proofs.lemmas.List.{length-map}
use Rattle.derivation_log.specs.Steps.{derived_steps}
use Rattle.derivation_log.specs.declared.step.Bound.TheVariants.{AtMost}
use Rattle.task_driver.specs.BoundUnits.{bounds_in, mark_in}
use Rattle.task_driver.specs.Outcomes.{RefuteBound}
use Rattle.task_driver.specs.Underway.{last_number}
use Rattle.task_driver.proofs.RefutedLemmas.{IsBetween, all_between, marks_rise, rebased_bound}
use Rattle.task_driver.proofs.SessionLemmas.{best_count, no_best}
use Rattle.task_driver.proofs.fewest.refuted.Goals as goal

pub marks_of-requires-clause-counts : goal.marks_of-requires-clause-counts
marks_of-requires-clause-counts g c = c.requires.search.3.counter.counts

pub marks_of-requires-clause-between : goal.marks_of-requires-clause-between
marks_of-requires-clause-between g c =
    subst (λ (n : ℕ). All (IsBetween c.args.most n) c.args.units.now) (sym c.requires.search.3.counter.candidates)
    (subst (λ (k : ℕ). All (IsBetween k (length c.args.inst.now.candidates)) c.args.units.now) (sym c.requires.most)
    (all_between c.args.inst.now (length c.args.inst.now.candidates) c.args.units.now c.requires.search.3.underway.falling))

pub rebase-requires-clause-rise : goal.rebase-requires-clause-rise
rebase-requires-clause-rise g c = marks_rise _ c.args.inst.now c.args.map.now _ _ _ c.args.units.now _ c.args.clauses c.args.most c.as_slice.result.now c.requires.search.3 c.requires.clauses (c.as_slice.ensures.value ∙ c.in_ok-marks.ensures)

pub rebase-requires-clause-few : goal.rebase-requires-clause-few
rebase-requires-clause-few g c =
    omega (arith, c.requires.room, ap length (c.as_slice.ensures.value ∙ c.in_ok-marks.ensures), length-map c.args.units.now (mark_in c.args.map.now c.args.clauses c.args.most))

pub returns-in-None : goal.returns-in-None
returns-in-None g c = λ budget.
    let is = c.requires.search.3 in
    let n = length c.args.inst.now.candidates in
    let last : last_number n (bounds_in c.args.units.now) ≡ n = no_best c.args.inst.now n (bounds_in c.args.units.now) (rw c.in-None.is at is.underway.best_is) in
    let shown : RefuteBound c.requires.search.0 c.args.inst.now (AtMost (last_number n (bounds_in c.args.units.now))) (derived_steps c.in_ok-rebased.rebased.steps) =
    rebased_bound _ c.args.inst.now c.args.map.now _ (g.S.Solver.solving c.args.solver.now) _ c.args.units.now _ c.args.clauses c.as_slice.result.now (derived_steps c.log.result.now.steps) (derived_steps c.in_ok-rebased.rebased.steps)
    is c.requires.clauses (c.as_slice.ensures.value ∙ (c.in_ok-marks.ensures ∙ ap (λ (k : ℕ). map (mark_in c.args.map.now c.args.clauses k) c.args.units.now) c.requires.most)) c.log.ensures.steps c.requires.refuted c.in_ok-rebased.ensures.refutes in
    record {
      formulas = c.requires.search.0;
      are = is.formulas;
      shows = record {
        bound_is = ap AtMost (c.requires.most ∙ last);
        refutes = subst (λ (k : ℕ). RefuteBound c.requires.search.0 c.args.inst.now (AtMost k) (derived_steps c.in_ok-rebased.rebased.steps)) last shown;
      };
    }

pub returns : goal.returns
returns g c = λ budget.
    let is = c.requires.search.3 in
    let n = length c.args.inst.now.candidates in
    let counted = best_count c.args.inst.now n (bounds_in c.args.units.now) c.in-Some.layout c.in-Some.plan is.underway.falling (rw c.in-Some.is at is.underway.best_is) in
    let count : length c.in-Some.layout ≡ last_number n (bounds_in c.args.units.now) + 1 = counted.0 in
    let one_less : last_number n (bounds_in c.args.units.now) ≡ length c.in-Some.layout - 1 = omega arith in
    let shown : RefuteBound c.requires.search.0 c.args.inst.now (AtMost (last_number n (bounds_in c.args.units.now))) (derived_steps c.in_ok-rebased.rebased.steps) =
    rebased_bound _ c.args.inst.now c.args.map.now _ (g.S.Solver.solving c.args.solver.now) _ c.args.units.now _ c.args.clauses c.as_slice.result.now (derived_steps c.log.result.now.steps) (derived_steps c.in_ok-rebased.rebased.steps)
    is c.requires.clauses (c.as_slice.ensures.value ∙ (c.in_ok-marks.ensures ∙ ap (λ (k : ℕ). map (mark_in c.args.map.now c.args.clauses k) c.args.units.now) c.requires.most)) c.log.ensures.steps c.requires.refuted c.in_ok-rebased.ensures.refutes in
    record {
      formulas = c.requires.search.0;
      are = is.formulas;
      shows = record {
        asked = tt;
        lawful = counted.2;
        smaller = (
          let kept : length c.args.inst.now.kept ≤ last_number n (bounds_in c.args.units.now) = counted.1 in omega arith,
          record {
            bound_is = ap AtMost (c.requires.most ∙ one_less);
            refutes = subst (λ (k : ℕ). RefuteBound c.requires.search.0 c.args.inst.now (AtMost k) (derived_steps c.in_ok-rebased.rebased.steps)) one_less shown;
          },
        );
      };
    }
