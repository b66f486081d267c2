-- One more train goes to the end.
use Rattle.discretise.specs.Trains.{IsTrainBetween}
use Rattle.discretise.proofs.RowLemmas.{zip_read}
use Rattle.discretise.proofs.trains.trains_of.Goals as goal

pub loop-at-preserved : goal.loop-at-preserved
loop-at-preserved c =
    let t = c.args.timetable.now in
    zip_read (IsTrainBetween c.args.ends.now t) t.trains c.as_slice-parts.result.now c.loop-at.trains.items c.push.new.self.items c.loop-at.at c.index-parts-at.result c.in_ok-train.train
    c.as_slice-parts.ensures c.loop-at-test.true c.index-parts-at.is c.loop-at.invariant c.in_ok-train.ensures c.in_ok-push.ensures.items
