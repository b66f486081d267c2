-- Why `make_room` does what its contract says.
use Rattle.vss_bits.proofs.BitLemmas.{is_set-wider}
use Rattle.vss_bits.proofs.bits.make_room.Goals as goal

pub returns-in_ok-push-clause-bits : goal.returns-in_ok-push-clause-bits
returns-in_ok-push-clause-bits c other = is_set-wider _ _ other c.in_ok-push.ensures.items
