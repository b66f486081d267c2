-- Why `drop_all` does what its contract says.
use Rattle.std.proofs.Common.{◌<◌, length, arith, take}
use Rattle.std.proofs.lemmas.List.{take_more}
use Rattle.log_checker.proofs.DropLemmas.{CanDrop-not, CanDrop-more, DropsAlso-more, DropsAlso-same, SameDrops-revived}
use Rattle.log_checker.proofs.drops.drop_all.Goals as goal

pub returns-in-Err-clause-cannot : goal.returns-in-Err-clause-cannot
returns-in-Err-clause-cannot c = CanDrop-not c.args.numbers.now c.args.last c.args.dropped.now c.loop-count.dropped c.args.ids.now c.loop-count.count _ (omega arith) c.loop-count.invariant.1 c.in-Err.ensures.not_live

pub returns-in-Err-clause-same : goal.returns-in-Err-clause-same
returns-in-Err-clause-same c = SameDrops-revived c.args.numbers.now c.args.last c.args.dropped.now c.drop_one.new.dropped c.revive_all.new.dropped (take c.loop-count.count c.args.ids.now) c.requires.ascending c.loop-count.invariant.0 (DropsAlso-same _ _ _ _ _ c.loop-count.invariant.1 c.in-Err.ensures.same) c.revive_all.ensures

pub loop-count-preserved : goal.loop-count-preserved
loop-count-preserved c =
    let within : c.loop-count.count < length c.args.ids.now = c.loop-count-test.true in
    rw (take_more c.args.ids.now c.loop-count.count (record { 0 = 0 }) within)
    (CanDrop-more c.args.numbers.now c.args.dropped.now c.loop-count.dropped (take c.loop-count.count c.args.ids.now) _ c.loop-count.invariant.1 c.loop-count.invariant.0 c.in-Ok.ensures.was_live, DropsAlso-more c.args.numbers.now c.args.dropped.now c.loop-count.dropped c.drop_one.new.dropped (take c.loop-count.count c.args.ids.now) _ c.loop-count.invariant.1 c.in-Ok.ensures.drops)
