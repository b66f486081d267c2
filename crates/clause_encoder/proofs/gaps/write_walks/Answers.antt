-- Why `write_walks` does what its contract says.
use Rattle.std.proofs.Common.{refl, [], arith}
use Rattle.clause_list.specs.Coding.{walks_in}
use Rattle.clause_encoder.specs.WalkFitting.{on_walk_alone}
use Rattle.clause_encoder.proofs.WritingLemmas.{each_more, each_done, each_full, each_fits}
use Rattle.clause_encoder.proofs.gaps.write_walks.Goals as goal

pub write_walk-requires-clause-within : goal.write_walk-requires-clause-within
write_walk-requires-clause-within c = omega (arith, c.walk_count-walk-end.ensures, c.loop-walk-test.true)

pub write_walk-requires-clause-few : goal.write_walk-requires-clause-few
write_walk-requires-clause-few c = c.requires.few c.loop-walk.walk [] (omega (arith, c.walk_count-walk-end.ensures, c.loop-walk-test.true))

pub write_walk-requires-clause-clauses : goal.write_walk-requires-clause-clauses
write_walk-requires-clause-clauses c = each_fits (on_walk_alone c.args.number) (walks_in c.args.gaps.now c.args.cell c.args.other) c.loop-walk.walk [] _ _ _ c.requires.clauses c.loop-walk.invariant.vars (omega (arith, c.walk_count-walk-end.ensures, c.loop-walk-test.true)) refl

pub returns-in-Err-clause-err : goal.returns-in-Err-clause-err
returns-in-Err-clause-err c = each_full (on_walk_alone c.args.number) (walks_in c.args.gaps.now c.args.cell c.args.other) c.loop-walk.walk [] _ _ _ _ c.loop-walk.invariant c.in-Err.ensures.err (omega (arith, c.walk_count-walk-end.ensures, c.loop-walk-test.true)) refl

pub loop-walk-preserved : goal.loop-walk-preserved
loop-walk-preserved c = each_more (on_walk_alone c.args.number) (walks_in c.args.gaps.now c.args.cell c.args.other) c.loop-walk.walk [] _ _ _ _ c.loop-walk.invariant c.in-Ok.ensures.ok (omega (arith, c.walk_count-walk-end.ensures, c.loop-walk-test.true)) refl

pub returns-clause-ok : goal.returns-clause-ok
returns-clause-ok c = each_done (on_walk_alone c.args.number) (walks_in c.args.gaps.now c.args.cell c.args.other) c.loop-walk.walk _ _ c.loop-walk.invariant (omega (arith, c.walk_count-walk-end.ensures, c.loop-walk-test.false))
