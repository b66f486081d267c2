-- Why `place_in` does what its contract says.
use Rattle.std.proofs.Common.{arith}
use Rattle.clause_encoder.proofs.TrainLemmas.{searched_none}
use Rattle.clause_encoder.proofs.place.place_in.Goals as goal

pub returns-then-low-items-clause-none : goal.returns-then-low-items-clause-none
returns-then-low-items-clause-none c none = searched_none c.args.items.now c.args.item c.loop-low.low c.loop-low.high c.requires c.loop-low.invariant c.loop-low-test.false (λ inside. absurd (omega arith))

pub returns-else-items-low-clause-none : goal.returns-else-items-low-clause-none
returns-else-items-low-clause-none c none = searched_none c.args.items.now c.args.item c.loop-low.low c.loop-low.high c.requires c.loop-low.invariant c.loop-low-test.false (λ inside. c.if-items-low.false)
