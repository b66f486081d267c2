-- What the loop of `end_of_another` keeps from turn to turn.
use Rattle.std.proofs.Common.{◌≡◌, ℕ, ◌<◌, slice_index_or}
use Rattle.node_groups.specs.declared.ends.End.{End}
use Rattle.cell_net.proofs.rules.candidates.end_of_another.Given as goal

abbrev pub invariant-loop-end : goal.invariant-loop-end
invariant-loop-end l = (k : ℕ) (d : End) → k < l.end-index → (slice_index_or l.ends k d).place ≡ l.one.place
