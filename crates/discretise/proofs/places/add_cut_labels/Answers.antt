-- One more label goes to the end.
use Rattle.discretise.specs.Places.{cut_label}
use Rattle.discretise.proofs.RowLemmas.{added_more}
use Rattle.discretise.proofs.places.add_cut_labels.Goals as goal

pub loop-cut-preserved : goal.loop-cut-preserved
loop-cut-preserved c = rw (c.in_ok-push.ensures.items, c.from.ensures) (added_more (cut_label c.args.timetable.now c.args.track.now) _ _ c.loop-cut.cut c.loop-cut.invariant)
