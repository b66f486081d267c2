-- What the loop of `spread` keeps from turn to turn.
use Rattle.std.proofs.Common.{◌≡◌, take}
use Rattle.rail_net.specs.Tables.{spread}
use Rattle.rail_net.proofs.joining.spread.Given as goal

abbrev pub invariant-loop-at : goal.invariant-loop-at
invariant-loop-at l = l.entries.items ≡ spread (take l.at l.ends) (take l.at l.values)
