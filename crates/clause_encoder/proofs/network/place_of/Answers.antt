-- Why `place_of` does what its contract says.
use Rattle.std.proofs.Common.{length, arith}
use Rattle.clause_encoder.proofs.NetworkLemmas.{first_at}
use Rattle.clause_encoder.proofs.network.place_of.Goals as goal

pub returns-then-items-place : goal.returns-then-items-place
returns-then-items-place c = first_at c.args.items.now c.args.item c.loop-place.place c.loop-place.invariant (omega arith) (λ inside. c.if-items-place.true)

pub returns : goal.returns
returns c = first_at c.args.items.now c.args.item (length c.args.items.now) (λ k less. c.loop-place.invariant k (omega arith)) (omega arith) (λ inside. absurd (omega arith))
