-- One more join goes to the end.
use Rattle.discretise.specs.Joins.{cut_join}
use Rattle.discretise.proofs.RowLemmas.{added_more}
use Rattle.discretise.proofs.joins.add_cut_joins.Goals as goal

pub loop-place-preserved : goal.loop-place-preserved
loop-place-preserved c = rw (c.in_ok-push.ensures.items, c.cut_join.ensures) (added_more (cut_join c.args.track.now) _ _ c.loop-place.place c.loop-place.invariant)
