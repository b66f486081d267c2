-- Why `with_room` does what its contract says.
use Rattle.std.proofs.Common.{◌∙◌}
use Rattle.vss_bits.proofs.BitLemmas.{stored_none}
use Rattle.vss_bits.proofs.bits.Bits.with_room.Goals as goal

pub invariant_of-result : goal.invariant_of-result
invariant_of-result c = stored_none _ (c.in_ok-reserve.ensures.items ∙ c.new-words.ensures.items)
