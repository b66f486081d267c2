-- One more cell goes to the end.
use Rattle.discretise.specs.Cells.{cell_in}
use Rattle.discretise.proofs.RowLemmas.{added_more}
use Rattle.discretise.proofs.cells.add_cells.Goals as goal

pub loop-place-preserved : goal.loop-place-preserved
loop-place-preserved c = rw (c.in_ok-push.ensures.items, c.cell_in.ensures) (added_more (cell_in c.args.track.now) _ _ c.loop-place.place c.loop-place.invariant)
