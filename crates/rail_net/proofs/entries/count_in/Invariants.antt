-- What the loop of `count_in` keeps from turn to turn.
use Rattle.std.proofs.Common.{◌≡◌, ◌<◌, ℕ, length, take, get_or}
use Rattle.rail_net.specs.Entries.{entries_under}
use Rattle.rail_net.proofs.entries.count_in.Given as goal

abbrev pub invariant-loop-at : goal.invariant-loop-at
invariant-loop-at l = record {
  len : length l.counts ≡ length l.initial.counts;
  counts : (key : ℕ) → key < length l.counts → get_or l.counts key 0 ≡ entries_under (take l.at l.entries) key;
}
