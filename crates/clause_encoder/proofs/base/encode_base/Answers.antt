-- Why `encode_base` does what its contract says.
use Rattle.std.proofs.Common.{ap, length, arith}
use Rattle.clause_encoder.proofs.TableLemmas.{tables_made, sweep_base, base_refused_over, base_swept_refused}
use Rattle.clause_encoder.proofs.base.encode_base.Goals as goal

pub base_over-requires-clause-made_for : goal.base_over-requires-clause-made_for
base_over-requires-clause-made_for c = tables_made _ _ _ c.in-Ok.ensures.ok c.as_slice.ensures.value

pub base_over-requires-clause-for_each : goal.base_over-requires-clause-for_each
base_over-requires-clause-for_each c = omega (arith, ap length c.as_slice.ensures.value, c.in-Ok.ensures.ok.for_each)

pub returns-in-Ok-base_over-clause-ok : goal.returns-in-Ok-base_over-clause-ok
returns-in-Ok-base_over-clause-ok c = sweep_base _ _ _ _ _ _ _ _ c.in-Ok.ensures.ok c.as_slice.ensures.value c.in-Ok-base_over.ensures.ok c.keeping.ensures.formula c.keeping.ensures.map

pub returns-in-Err-base_over-clause-err : goal.returns-in-Err-base_over-clause-err
returns-in-Err-base_over-clause-err c = base_refused_over c.in-Err-base_over.refusal _ _ _ _ c.in-Ok.ensures.ok c.as_slice.ensures.value c.in-Err-base_over.ensures.err

pub returns-in-Err-clause-err : goal.returns-in-Err-clause-err
returns-in-Err-clause-err c = base_swept_refused c.in-Err.refusal _ _ c.in-Err.ensures.err
