-- One more cut goes to the end.
use Rattle.std.proofs.Common.{◌+◌, ℕ}
use Rattle.discretise.specs.Cells.{node}
use Rattle.discretise.proofs.RowLemmas.{added_more}
use Rattle.discretise.proofs.places.add_cuts.Goals as goal

pub loop-cut-preserved : goal.loop-cut-preserved
loop-cut-preserved c = rw c.in_ok-push.ensures.items (added_more (λ (place : ℕ). node (c.args.track.now.cut + place)) _ _ c.loop-cut.cut c.loop-cut.invariant)
