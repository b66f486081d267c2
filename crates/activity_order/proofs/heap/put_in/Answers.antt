-- Why `put_in` does what its contract says.
use Rattle.std.proofs.Common.{◌+◌, ◌<◌, true, length, get_or, set, refl, ap, ◌∙◌, arith}
use Rattle.activity_order.proofs.RankLemmas.{exchanged_second}
use Rattle.activity_order.proofs.PlaceLemmas.{waits_more}
use Rattle.activity_order.proofs.heap.put_in.Goals as goal

pub returns-clause-waits : goal.returns-clause-waits
returns-clause-waits c =
    let there = c.requires.order.stands.back c.args.place c.requires.place in
    let size_in : c.args.size < length c.args.heap.now = omega (arith, c.requires.away, there.0) in
    c.sift_up.ensures.waits
    ∙ (waits_more c.exchange.new.heap c.exchange.new.places c.args.size (c.args.size + 1) c.args.place refl (omega (arith, size_in, c.exchange.ensures.long))
    (ap (λ h. get_or h c.args.size 0) c.exchange.ensures.heap ∙ (exchanged_second c.args.heap.now (get_or c.args.places.now c.args.place 0) c.args.size size_in ∙ there.1)) c.exchange.ensures.placed
    ∙ ap (λ w. set w c.args.place true) (c.exchange.ensures.outside c.args.size c.requires.away (omega arith)))
