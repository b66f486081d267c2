-- The texts one behind another.
use Rattle.std.proofs.lemmas.Result.{on_ok_weaker}
use Rattle.case_maker.specs.Networks.{sections_of}
use Rattle.case_maker.proofs.LoopLemmas.{joined}
use Rattle.case_maker.proofs.network.put_sections_of.Goals as goal

pub returns : goal.returns
unfolding sections_of
returns c =
    let upto-2 = joined _ _ _ _ _ c.in_ok-put_filled.ensures c.in_ok-put_filled-2.ensures in
    let upto-3 = joined _ _ _ _ _ upto-2 c.in_ok-put_filled-3.ensures in
    on_ok_weaker c.put_filled-4.result (λ end. joined _ _ _ _ _ upto-3 end) c.put_filled-4.ensures
