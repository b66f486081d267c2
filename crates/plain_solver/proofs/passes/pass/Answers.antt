-- Why `pass` does what its contract says.
use Rattle.std.proofs.Common.{◌<◌, length, arith, refl}
use Rattle.search_trail.specs.Trails.{known_of}
use Rattle.plain_solver.proofs.PassLemmas.{clause_at, unit_over, passing_rest, passing_unit, passing_conflict}
use Rattle.plain_solver.proofs.passes.pass.Goals.{in-AtRest, in-Unit}
use Rattle.plain_solver.proofs.passes.pass.Goals as goal

pub read_clause-requires : goal.read_clause-requires
read_clause-requires c =
    let within : c.clauses.place < length c.args.formula.now.clauses = omega (arith, c.clauses-test.true, c.len-place-end.ensures) in
    clause_at c.args.formula.now.clauses c.args.trail.now c.clauses.trail c.clauses.place c.clause.result.now within c.clause.ensures.lits c.clauses.invariant

pub assign-requires-clause-in_range : goal.assign-requires-clause-in_range
assign-requires-clause-in_range c =
    let within : c.clauses.place < length c.args.formula.now.clauses = omega (arith, c.clauses-test.true, c.len-place-end.ensures) in
    unit_over c.clauses.trail.vars (known_of c.clauses.trail.entries) c.clause.result.now c.in-Unit.lit (clause_at c.args.formula.now.clauses c.args.trail.now c.clauses.trail c.clauses.place c.clause.result.now within c.clause.ensures.lits c.clauses.invariant) c.in-Unit.ensures

pub returns-in-Conflict-clause-result : goal.returns-in-Conflict-clause-result
returns-in-Conflict-clause-result c =
    let within : c.clauses.place < length c.args.formula.now.clauses = omega (arith, c.clauses-test.true, c.len-place-end.ensures) in
    passing_conflict c.args.formula.now.clauses c.clauses.trail c.clauses.place c.clause.result.now within c.clause.ensures.lits c.in-Conflict.ensures

pub clauses-preserved : goal.clauses-preserved
clauses-preserved c =
    let within : c.clauses.place < length c.args.formula.now.clauses = omega (arith, c.clauses-test.true, c.len-place-end.ensures) in
    elim c.match-read_clause.branch [
      | in-AtRest w ↦ rw (w.trail-is) (passing_rest c.args.formula.now.clauses c.args.trail.now c.clauses.trail c.clauses.place c.clause.result.now c.clause.ensures.lits w.in-AtRest.ensures c.clauses.invariant)
      | in-Unit w ↦ rw (w.trail-is) (passing_unit c.args.formula.now.clauses c.args.trail.now c.clauses.trail w.assign.new.self c.clauses.place c.clause.result.now w.in-Unit.lit _ within c.clause.ensures.lits (clause_at c.args.formula.now.clauses c.args.trail.now c.clauses.trail c.clauses.place c.clause.result.now within c.clause.ensures.lits c.clauses.invariant) w.in-Unit.ensures refl w.assign.ensures.one_more c.clauses.invariant)
    ]
