-- The texts one behind another.
use Rattle.std.proofs.Common.{◌+◌, ◌*◌, ◌/◌, ap}
use Rattle.std.proofs.lemmas.Result.{on_ok_weaker}
use Rattle.case_maker.specs.Timetables.{arrival, entry, train_length, train_of, train_station}
use Rattle.case_maker.proofs.LoopLemmas.{filled_as, joined}
use Rattle.case_maker.proofs.timetable.put_train.Goals as goal

pub returns : goal.returns
unfolding train_of
returns c =
    let upto-2 = joined _ _ _ _ _ c.in_ok-put_comma.ensures c.in_ok-put_filled.ensures in
    let upto-3 = joined _ _ _ _ _ upto-2 (filled_as c.put_filled.new.out.items _ c.put_filled-2.new.out.items (300 + 100 * c.draw.result) (train_length c.args.seed c.args.size c.args.train) (ap (λ d. 300 + 100 * d) c.draw.ensures.value) c.in_ok-put_filled-2.ensures) in
    let upto-4 = joined _ _ _ _ _ upto-3 c.in_ok-put_way.ensures in
    let upto-5 = joined _ _ _ _ _ upto-4 (filled_as c.put_way.new.out.items _ c.put_filled-3.new.out.items c.entry.result (entry c.args.size c.args.train) c.entry.ensures c.in_ok-put_filled-3.ensures) in
    let upto-6 = joined _ _ _ _ _ upto-5 (filled_as c.put_filled-3.new.out.items _ c.put_filled-4.new.out.items ((c.args.train / 2 + 1) * c.span.result) (arrival c.args.size c.args.train) (ap (λ d. (c.args.train / 2 + 1) * d) c.span.ensures) c.in_ok-put_filled-4.ensures) in
    on_ok_weaker c.put_filled-5.result (λ end. joined _ _ _ _ _ upto-6 (filled_as c.put_filled-4.new.out.items _ c.put_filled-5.new.out.items (1 + c.draw-station.result) (train_station c.args.seed c.args.size c.args.train) (ap (λ d. 1 + d) c.draw-station.ensures.value) end)) c.put_filled-5.ensures
