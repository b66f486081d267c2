-- Why `search_in` does what its contract says.
use Rattle.std.proofs.Common.{◌∙◌, length, subst, arith}
use Rattle.derivation_log.specs.Steps.{derived_steps}
use Rattle.clause_encoder.specs.declared.task.Task.{Task}
use Rattle.solver_face.proofs.SolvingLaws.{numbers_used_at_first}
use Rattle.task_driver.specs.Outcomes.{RefuteBound}
use Rattle.task_driver.specs.TaskEnds.{AreFormulasOf}
use Rattle.task_driver.proofs.EncodingLemmas.{all_clauses, are_formulas, clauses_are, decoded_within, few_clauses, first_asked, formulas_in, keeps_tables, satisfies_task, task_asked, vars_are, within_asked}
use Rattle.task_driver.proofs.OnceLemmas.{found_in, not_asked, refutes_alone, spent_once}
use Rattle.task_driver.proofs.once.search_in.Goals as goal

pub solve-requires-clause-numbered : goal.solve-requires-clause-numbered
solve-requires-clause-numbered g c = omega (arith, few_clauses c.args.inst.now c.args.bound c.args.formula c.args.map.now c.requires.encoded, numbers_used_at_first (g.S.Solver.solving c.in_ok-solver.solver) c.args.formula.clauses c.in_ok-solver.ensures.formula c.in_ok-solver.ensures.nothing_yet, c.requires.budget)

pub decode-requires-clause-kept : goal.decode-requires-clause-kept
decode-requires-clause-kept g c = keeps_tables c.args.inst.now c.args.bound c.args.formula c.args.map.now c.requires.encoded

pub decode-requires-clause-satisfied : goal.decode-requires-clause-satisfied
decode-requires-clause-satisfied g c =
    let shown = rw c.in-Sat.is at c.in_ok-solve.ensures.answer in
    let found = found_in c.args.formula (g.S.Solver.solving c.in_ok-solver.solver) (g.S.Solver.solving c.solve.new.self) _ _ c.valuation.result.now.values c.in_ok-solver.ensures.vars c.in_ok-solver.ensures.formula c.in_ok-solve.ensures.searched shown.0 c.valuation.ensures in
    satisfies_task c.args.bound c.args.inst.now c.args.formula c.args.map.now c.valuation.result.now.values c.free_formulas_say.ensures c.parts-parts.ensures.rules c.requires.encoded found.0 found.1

pub returns-in_ok-layout-in-Sat : goal.returns-in_ok-layout-in-Sat
returns-in_ok-layout-in-Sat g c = λ q asks.
    let shown = rw c.in-Sat.is at c.in_ok-solve.ensures.answer in
    let found = found_in c.args.formula (g.S.Solver.solving c.in_ok-solver.solver) (g.S.Solver.solving c.solve.new.self) _ _ c.valuation.result.now.values c.in_ok-solver.ensures.vars c.in_ok-solver.ensures.formula c.in_ok-solve.ensures.searched shown.0 c.valuation.ensures in
    let f = formulas_in c.args.inst.now c.args.bound c.args.formula c.args.map.now c.requires.encoded in
    record {
      formulas = f;
      are = subst (λ (t : Task). AreFormulasOf c.args.inst.now t f) (task_asked c.args.inst.now q c.args.bound asks) (are_formulas c.args.inst.now c.args.bound c.args.formula c.args.map.now c.requires.encoded);
      shows = record {
        asked = within_asked c.args.inst.now q c.args.bound c.in_ok-layout-in-Sat.layout asks
            (decoded_within c.args.bound c.args.inst.now c.args.formula c.args.map.now c.valuation.result.now.values c.in_ok-layout-in-Sat.layout c.free_formulas_say.ensures c.parts-parts.ensures.rules c.requires.encoded found.0 found.1
            c.in_ok-layout-in-Sat.ensures.given c.in_ok-layout-in-Sat.ensures.count);
        lawful = c.in_ok-layout-in-Sat.ensures.lawful;
        smaller = not_asked f c.args.inst.now q c.args.bound (length c.in_ok-layout-in-Sat.layout) asks;
      };
    }

pub returns-in-Unsat : goal.returns-in-Unsat
returns-in-Unsat g c = λ q asks.
    let shown = rw c.in-Unsat.is at c.in_ok-solve.ensures.answer in
    let f = formulas_in c.args.inst.now c.args.bound c.args.formula c.args.map.now c.requires.encoded in
    let vars = c.in_ok-solver.ensures.vars ∙ vars_are c.args.inst.now c.args.bound c.args.formula c.args.map.now c.requires.encoded in
    let clauses = c.in_ok-solver.ensures.formula ∙ clauses_are c.args.inst.now c.args.bound c.args.formula c.args.map.now c.requires.encoded in
    record {
      formulas = f;
      are = subst (λ (t : Task). AreFormulasOf c.args.inst.now t f) (task_asked c.args.inst.now q c.args.bound asks) (are_formulas c.args.inst.now c.args.bound c.args.formula c.args.map.now c.requires.encoded);
      shows = record {
        bound_is = first_asked c.args.inst.now q c.args.bound asks;
        refutes = subst (λ b. RefuteBound f c.args.inst.now b (derived_steps c.into_log.result.steps)) (first_asked c.args.inst.now q c.args.bound asks)
            (rw c.into_log.ensures
            (refutes_alone (g.S.Solver.solving c.in_ok-solver.solver) (g.S.Solver.solving c.solve.new.self) _ _ _ _ c.in_ok-solver.ensures.nothing_yet vars clauses c.in_ok-solve.ensures.searched shown));
      };
    }

pub returns-in-Spent : goal.returns-in-Spent
returns-in-Spent g c = λ q asks.
    let shown = rw c.in-Spent.is at c.in_ok-solve.ensures.answer in
    let f = formulas_in c.args.inst.now c.args.bound c.args.formula c.args.map.now c.requires.encoded in
    let vars = c.in_ok-solver.ensures.vars ∙ vars_are c.args.inst.now c.args.bound c.args.formula c.args.map.now c.requires.encoded in
    let clauses = c.in_ok-solver.ensures.formula ∙ clauses_are c.args.inst.now c.args.bound c.args.formula c.args.map.now c.requires.encoded in
    record {
      formulas = f;
      are = subst (λ (t : Task). AreFormulasOf c.args.inst.now t f) (task_asked c.args.inst.now q c.args.bound asks) (are_formulas c.args.inst.now c.args.bound c.args.formula c.args.map.now c.requires.encoded);
      shows = rw (← c.new-left.ensures)
          (spent_once f c.args.inst.now q c.args.bound (g.S.Solver.solving c.in_ok-solver.solver) (g.S.Solver.solving c.solve.new.self) _ _ asks c.in_ok-solver.ensures.nothing_yet vars clauses
          (all_clauses c.args.inst.now c.args.bound c.args.formula c.args.map.now c.requires.encoded c.vars-vars.ensures.clauses) c.in_ok-solve.ensures.searched shown.0 shown.1 shown.2);
    }
