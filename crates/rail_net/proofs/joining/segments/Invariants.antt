-- What the loop of `segments` keeps from turn to turn.
use Rattle.std.proofs.Common.{◌≡◌, take}
use Rattle.rail_net.specs.Tables.{segments_from}
use Rattle.rail_net.proofs.joining.segments.Given as goal

abbrev pub invariant-loop-at : goal.invariant-loop-at
invariant-loop-at l = l.segments.items ≡ segments_from (take l.at l.ends) (take l.at l.homes)
