-- One more cell goes to the end.
use Rattle.std.proofs.Common.{◌+◌, ℕ}
use Rattle.discretise.specs.Cells.{cell}
use Rattle.discretise.proofs.RowLemmas.{added_more}
use Rattle.discretise.proofs.stations.add_ids.Goals as goal

pub loop-place-preserved : goal.loop-place-preserved
loop-place-preserved c = rw c.in_ok-push.ensures.items (added_more (λ (place : ℕ). cell (c.args.track.now.first + place)) _ _ c.loop-place.place c.loop-place.invariant)
