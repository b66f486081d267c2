-- What the loop of `are_known` keeps from turn to turn.
use Rattle.std.proofs.Common.{take}
use Rattle.rail_net.specs.Rules.{AreKnown}
use Rattle.rail_net.proofs.rules.references.are_known.Given as goal

abbrev pub invariant-loop-at : goal.invariant-loop-at
invariant-loop-at l = AreKnown l.names (take l.at l.texts)
