-- Why `entry_marks` does what its contract says.
use Rattle.std.proofs.Common.{◌∙◌, sym, arith}
use Rattle.clause_encoder.proofs.MarkLemmas.{pushed_more, map_below_none, map_all, marks_few}
use Rattle.clause_encoder.proofs.marks.entry_marks.Goals as goal

pub loop-item-init : goal.loop-item-init
loop-item-init g c = c.in_ok-marks.ensures ∙ sym (map_below_none _)

pub loop-item-preserved : goal.loop-item-preserved
loop-item-preserved g c = pushed_more _ _ _ _ _ c.loop-item.invariant c.in_ok-push.ensures.ok (c.is_entry.ensures c.args.inst.now)

pub returns : goal.returns
returns g c =
    let rules = c.len-count.ensures.rules c.args.inst.now c.requires in
    let size = rules.entries_for_each in
    let items = c.len-count.ensures.items c.args.inst.now in
    let count = c.len-count.ensures.count in
    c.loop-item.invariant ∙ map_all _ c.loop-item.item (omega (arith, size, items, count))

pub push-requires : goal.push-requires
push-requires g c = marks_few _ _ _ c.loop-item.invariant (omega arith)
