-- The texts one behind another.
use Rattle.std.proofs.Common.{◌+◌, ◌*◌, ap}
use Rattle.std.proofs.lemmas.Result.{on_ok_weaker}
use Rattle.case_maker.specs.Networks.{line_length, line_track}
use Rattle.case_maker.proofs.LoopLemmas.{filled_as, joined}
use Rattle.case_maker.proofs.network.put_line_track.Goals as goal

pub returns : goal.returns
unfolding line_track
returns c =
    let upto-2 = joined _ _ _ _ _ c.in_ok-put_filled.ensures c.in_ok-put_line_end.ensures in
    on_ok_weaker c.put_filled-2.result (λ end. joined _ _ _ _ _ upto-2 (filled_as c.put_line_end.new.out.items _ c.put_filled-2.new.out.items (2000 + 500 * c.draw.result) (line_length c.args.seed c.args.i) (ap (λ d. 2000 + 500 * d) c.draw.ensures.value) end)) c.put_filled-2.ensures
