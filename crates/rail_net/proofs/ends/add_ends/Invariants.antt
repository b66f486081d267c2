-- What the loop of `add_ends` keeps from turn to turn.
use Rattle.std.proofs.Common.{◌≡◌, ◌<◌, ℕ, length, take, get_or}
use Rattle.std.specs.Prelude.{◌==◌, count_by}
use Rattle.rail_net.proofs.ends.add_ends.Given as goal

abbrev pub invariant-loop-at : goal.invariant-loop-at
invariant-loop-at l = record {
  len : length l.counts ≡ length l.initial.counts;
  counts : (node : ℕ) → node < length l.counts → get_or l.counts node 0 ≡ count_by (λ e. e.to == node) (take l.at l.ends);
}
