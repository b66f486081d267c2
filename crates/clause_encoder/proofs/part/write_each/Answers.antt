-- Why `write_each` does what its contract says.
use Rattle.std.proofs.Common.{refl}
use Rattle.clause_encoder.proofs.WritingLemmas.{each_more, each_done, each_full, each_fits}
use Rattle.clause_encoder.proofs.part.write_each.Goals as goal

pub write-requires-clause-clauses : goal.write-requires-clause-clauses
write-requires-clause-clauses g c = each_fits _ _ _ 0 _ _ _ c.requires.clauses c.loop-place.invariant.vars c.loop-place-test.true refl

pub returns-in-Err-clause-err : goal.returns-in-Err-clause-err
returns-in-Err-clause-err g c = each_full _ _ _ 0 _ _ _ _ c.loop-place.invariant c.in-Err.ensures.err c.loop-place-test.true refl

pub loop-place-preserved : goal.loop-place-preserved
loop-place-preserved g c = each_more _ _ _ 0 _ _ _ _ c.loop-place.invariant c.in-Ok.ensures.ok c.loop-place-test.true refl

pub returns-clause-ok : goal.returns-clause-ok
returns-clause-ok g c = each_done _ _ _ _ _ c.loop-place.invariant c.loop-place-test.false
