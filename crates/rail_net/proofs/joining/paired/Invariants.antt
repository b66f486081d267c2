-- What the loop of `paired` keeps from turn to turn.
use Rattle.std.proofs.Common.{◌≡◌, take}
use Rattle.rail_net.specs.Tables.{paired}
use Rattle.rail_net.proofs.joining.paired.Given as goal

abbrev pub invariant-loop-at : goal.invariant-loop-at
invariant-loop-at l = l.entries.items ≡ paired (take l.at l.keys) (take l.at l.values)
