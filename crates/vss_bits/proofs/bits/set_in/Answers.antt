-- Why `set_in` does what its contract says.
use Rattle.std.proofs.Common.{refl}
use Rattle.vss_bits.proofs.BitLemmas.{sets_word}
use Rattle.vss_bits.proofs.bits.set_in.Goals as goal

pub returns-then-truth : goal.returns-then-truth
returns-then-truth c = sets_word c.args.words.now.items _ c.args.place c.index.result.now c.args.truth c.if-truth.true c.requires.within c.index.ensures refl
