-- Why `ahead_marks` does what its contract says.
use Rattle.std.proofs.Common.{◌∙◌, sym, arith}
use Rattle.clause_encoder.proofs.MarkLemmas.{pushed_more, map_below_none, marks_few}
use Rattle.clause_encoder.proofs.marks.ahead_marks.Goals as goal

pub loop-item-preserved : goal.loop-item-preserved
loop-item-preserved g c = pushed_more _ _ _ _ _ c.loop-item.invariant c.in_ok-push.ensures.ok c.is_ahead.ensures

pub loop-item-init : goal.loop-item-init
loop-item-init g c = c.in_ok-new.ensures ∙ sym (map_below_none _)

pub push-requires : goal.push-requires
push-requires g c = marks_few _ _ _ c.loop-item.invariant (omega arith)
