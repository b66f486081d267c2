-- Why `take_top` does what its contract says.
use Rattle.std.proofs.Common.{◌-◌, ◌<◌, false, length, get_or, set, ap, ◌∙◌, arith}
use Rattle.activity_order.proofs.RankLemmas.{exchanged_second}
use Rattle.activity_order.proofs.PlaceLemmas.{waits_less}
use Rattle.activity_order.proofs.HeapLemmas.{top_first}
use Rattle.activity_order.proofs.heap.take_top.Goals as goal

pub returns-clause-waits : goal.returns-clause-waits
returns-clause-waits c =
    let last_in : c.args.size - 1 < length c.args.heap.now = omega (arith, c.requires.order.within, c.requires.some) in
    c.sift_down.ensures.waits
    ∙ (waits_less c.exchange.new.heap c.exchange.new.places (c.args.size - 1) c.args.size (get_or c.args.heap.now 0 0) (omega (arith, c.requires.some)) (omega (arith, c.requires.order.within, c.exchange.ensures.long))
    (ap (λ h. get_or h (c.args.size - 1) 0) c.exchange.ensures.heap ∙ exchanged_second c.args.heap.now 0 (c.args.size - 1) last_in) c.exchange.ensures.placed
    ∙ ap (λ w. set w (get_or c.args.heap.now 0 0) false) (c.exchange.ensures.inside c.args.size c.requires.some (omega (arith, c.requires.some))))

pub returns-clause-first : goal.returns-clause-first
returns-clause-first c = λ place waits. top_first c.args.scores.now c.args.heap.now c.args.places.now c.args.size place c.requires.order c.requires.some waits
