-- Why `write_touched` does what its contract says.
use Rattle.std.proofs.Common.{refl}
use Rattle.clause_encoder.specs.Fitting.{touching_all, touching_one}
use Rattle.clause_encoder.proofs.WritingLemmas.{each_more, each_done, each_full, each_fits}
use Rattle.clause_encoder.proofs.touch.write_touched.Goals as goal

pub write_touching-requires-clause-clauses : goal.write_touching-requires-clause-clauses
unfolding touching_all
write_touching-requires-clause-clauses c = each_fits (touching_one c.args.train.now c.args.step c.args.sweep) c.args.cells.now c.loop-at.at _ _ _ _ c.requires.clauses c.loop-at.invariant.vars c.loop-at-test.true refl

pub returns-in-Err-clause-err : goal.returns-in-Err-clause-err
unfolding touching_all
returns-in-Err-clause-err c = each_full (touching_one c.args.train.now c.args.step c.args.sweep) c.args.cells.now c.loop-at.at _ _ _ _ _ c.loop-at.invariant c.in-Err.ensures.err c.loop-at-test.true refl

pub loop-at-preserved : goal.loop-at-preserved
loop-at-preserved c = each_more (touching_one c.args.train.now c.args.step c.args.sweep) c.args.cells.now c.loop-at.at _ _ _ _ _ c.loop-at.invariant c.in-Ok.ensures.ok c.loop-at-test.true refl

pub returns-clause-ok : goal.returns-clause-ok
unfolding touching_all
returns-clause-ok c = each_done (touching_one c.args.train.now c.args.step c.args.sweep) c.args.cells.now c.loop-at.at _ _ c.loop-at.invariant c.loop-at-test.false
