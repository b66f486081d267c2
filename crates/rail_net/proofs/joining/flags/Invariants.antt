-- What the loop of `flags` keeps from turn to turn.
use Rattle.std.proofs.Common.{◌≡◌, take}
use Rattle.rail_net.specs.Tables.{flags_of}
use Rattle.rail_net.proofs.joining.flags.Given as goal

abbrev pub invariant-loop-at : goal.invariant-loop-at
invariant-loop-at l = l.flags.items ≡ flags_of (take l.at l.tracks)
