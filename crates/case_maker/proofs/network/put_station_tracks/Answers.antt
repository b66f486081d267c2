-- The texts one behind another.
use Rattle.std.proofs.lemmas.Result.{on_ok_weaker}
use Rattle.case_maker.specs.Networks.{station_tracks}
use Rattle.case_maker.proofs.LoopLemmas.{joined}
use Rattle.case_maker.proofs.network.put_station_tracks.Goals as goal

pub returns : goal.returns
unfolding station_tracks
returns c =
    let upto-2 = joined _ _ _ _ _ c.in_ok-put_filled.ensures c.in_ok-put_filled-2.ensures in
    let upto-3 = joined _ _ _ _ _ upto-2 c.in_ok-put_filled-3.ensures in
    let upto-4 = joined _ _ _ _ _ upto-3 c.in_ok-put_filled-4.ensures in
    let upto-5 = joined _ _ _ _ _ upto-4 c.in_ok-put_filled-5.ensures in
    let upto-6 = joined _ _ _ _ _ upto-5 c.in_ok-put_filled-6.ensures in
    let upto-7 = joined _ _ _ _ _ upto-6 c.in_ok-put_filled-7.ensures in
    on_ok_weaker c.put_filled-8.result (λ end. joined _ _ _ _ _ upto-7 end) c.put_filled-8.ensures
