-- Why `LitWord::read` does what its contract says.
use Rattle.std.proofs.Common.{◌≡◌, true, false, drop, refl, arith}
use Rattle.std.proofs.lemmas.List.{take_rest}
use Rattle.derivation_log.proofs.NumberLemmas.{negative_misses, positive_misses, begins}
use Rattle.derivation_log.proofs.word.LitWord.read.Goals as goal

pub returns-in-Err-clause-missed : goal.returns-in-Err-clause-missed
returns-in-Err-clause-missed c =
    negative_misses c.args.text.now (drop 1 c.args.text.now) c.in-Err.miss (begins 45 c.args.text.now (omega arith) (c.if-begins_with.ensures.0 refl)) (rw take_rest at c.in-Err.ensures.missed)

pub returns-in-Err-number-clause-missed : goal.returns-in-Err-number-clause-missed
returns-in-Err-number-clause-missed c =
    positive_misses c.args.text.now c.in-Err-number.miss (λ minus. let never : false ≡ true = c.if-begins_with.ensures.1 minus in cc) c.in-Err-number.ensures.missed
