-- What the loop of `zeros` keeps from turn to turn.
use Rattle.std.proofs.Common.{◌≡◌, map}
use Rattle.std.specs.List.{range_with_len}
use Rattle.rail_net.specs.Tables.{zero_under}
use Rattle.rail_net.proofs.marks.zeros.Given as goal

abbrev pub invariant-loop-key : goal.invariant-loop-key
invariant-loop-key l = l.entries.items ≡ map zero_under (range_with_len 0 l.key)
