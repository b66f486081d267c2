-- Why `encode` does what its contract says.
use Rattle.std.proofs.Common.{ap, length, arith}
use Rattle.clause_encoder.proofs.TableLemmas.{tables_made, sweep_encoding, refused_over, swept_refused}
use Rattle.clause_encoder.proofs.sweeps.encode.Goals as goal

pub encode_over-requires-clause-made_for : goal.encode_over-requires-clause-made_for
encode_over-requires-clause-made_for c = tables_made _ _ _ c.in-Ok.ensures.ok c.as_slice.ensures.value

pub encode_over-requires-clause-for_each : goal.encode_over-requires-clause-for_each
encode_over-requires-clause-for_each c = omega (arith, ap length c.as_slice.ensures.value, c.in-Ok.ensures.ok.for_each)

pub returns-in-Ok-encode_over-clause-ok : goal.returns-in-Ok-encode_over-clause-ok
returns-in-Ok-encode_over-clause-ok c = sweep_encoding _ _ _ _ _ _ _ _ _ c.in-Ok.ensures.ok c.as_slice.ensures.value c.in-Ok-encode_over.ensures.ok c.keeping.ensures.formula c.keeping.ensures.map

pub returns-in-Err-encode_over-clause-err : goal.returns-in-Err-encode_over-clause-err
returns-in-Err-encode_over-clause-err c = refused_over c.in-Err-encode_over.refusal _ _ _ _ c.in-Ok.ensures.ok c.as_slice.ensures.value c.in-Err-encode_over.ensures.err

pub returns-in-Err-clause-err : goal.returns-in-Err-clause-err
returns-in-Err-clause-err c = swept_refused c.in-Err.refusal _ _ c.in-Err.ensures.err
