-- Why `ClauseIdWord::read` does what its contract says.
use Rattle.derivation_log.proofs.NumberLemmas.{id_misses}
use Rattle.derivation_log.proofs.word.ClauseIdWord.read.Goals as goal

pub returns-in-Err-clause-missed : goal.returns-in-Err-clause-missed
returns-in-Err-clause-missed c = id_misses c.args.text.now c.in-Err.miss c.in-Err.ensures.missed
