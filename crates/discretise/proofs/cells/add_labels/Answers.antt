-- One more label goes to the end.
use Rattle.discretise.specs.Cells.{label_in}
use Rattle.discretise.proofs.RowLemmas.{added_more}
use Rattle.discretise.proofs.cells.add_labels.Goals as goal

pub loop-index-preserved : goal.loop-index-preserved
loop-index-preserved c = rw c.in_ok-push.ensures.items (added_more (label_in c.args.track.now) _ _ c.loop-index.index c.loop-index.invariant)
