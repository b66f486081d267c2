-- Why `numbers_over` does what its contract says.
use Rattle.clause_encoder.proofs.EncodeLemmas.{gaps_refused}
use Rattle.clause_encoder.proofs.numbers.numbers_over.Goals as goal

pub returns-in-Err-clause-err : goal.returns-in-Err-clause-err
returns-in-Err-clause-err g c = gaps_refused c.in-Err.refusal _ _ _ c.in-Err.ensures.refusal c.refusal_of.ensures
