-- Why `base_over` does what its contract says.
use Rattle.std.proofs.Common.{arith}
use Rattle.clause_encoder.proofs.EncodeLemmas.{numbers_refused}
use Rattle.clause_encoder.proofs.base.base_over.Goals as goal

pub returns-in-Err-clause-err : goal.returns-in-Err-clause-err
returns-in-Err-clause-err g c = numbers_refused c.in-Err.refusal _ _ _ _ _ (omega arith) c.in-Err.ensures.err
