-- Why `write_range` does what its contract says.
use Rattle.std.proofs.Common.{refl, arith, inl, inr}
use Rattle.clause_encoder.proofs.WritingLemmas.{range_none, range_step, range_done, range_full, range_fits}
use Rattle.clause_encoder.proofs.part.write_range.Goals as goal

pub loop-number-init : goal.loop-number-init
loop-number-init g c = (range_none _ _ _ _ refl, inr refl)

pub write-requires-clause-clauses : goal.write-requires-clause-clauses
write-requires-clause-clauses g c = range_fits _ _ _ _ _ _ _ c.requires.clauses c.loop-number.invariant.0.vars (omega arith) c.loop-number-test.true refl

pub returns-in-Err-clause-err : goal.returns-in-Err-clause-err
returns-in-Err-clause-err g c = range_full _ _ _ _ _ _ _ _ c.loop-number.invariant.0 c.in-Err.ensures.err (omega arith) c.loop-number-test.true refl

pub loop-number-preserved : goal.loop-number-preserved
loop-number-preserved g c = (range_step _ _ _ _ _ _ _ c.loop-number.invariant.0 c.in-Ok.ensures.ok (omega arith) refl, inl (omega arith))

pub returns-clause-ok : goal.returns-clause-ok
returns-clause-ok g c = range_done _ _ _ _ _ _ c.loop-number.invariant.0 (omega arith) c.loop-number-test.false c.loop-number.invariant.1
