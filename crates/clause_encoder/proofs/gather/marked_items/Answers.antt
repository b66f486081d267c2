-- Why `marked_items` does what its contract says.
use Rattle.std.proofs.Common.{◌∙◌}
use Rattle.clause_encoder.proofs.GatherLemmas.{kept_none, kept_more}
use Rattle.clause_encoder.proofs.gather.marked_items.Goals as goal

pub loop-item-init : goal.loop-item-init
loop-item-init c = c.new-items.ensures.items ∙ kept_none _

pub loop-item-preserved : goal.loop-item-preserved
loop-item-preserved c = kept_more _ _ _ _ c.loop-item.invariant c.in_ok-push_if_both.ensures
