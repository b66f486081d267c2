-- Why `is_set_in` does what its contract says.
use Rattle.vss_bits.proofs.BitLemmas.{reads_bit}
use Rattle.vss_bits.proofs.bits.is_set_in.Goals as goal

pub returns : goal.returns
returns c = reads_bit c.args.words.now c.args.place
