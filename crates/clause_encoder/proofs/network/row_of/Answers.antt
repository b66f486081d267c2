-- Why `row_of` does what its contract says.
use Rattle.std.proofs.Common.{◌∙◌}
use Rattle.clause_encoder.proofs.GatherLemmas.{kept_none, kept_more}
use Rattle.clause_encoder.proofs.network.row_of.Goals as goal

pub loop-other-init : goal.loop-other-init
loop-other-init c = c.new-row.ensures.items ∙ kept_none _

pub loop-other-preserved : goal.loop-other-preserved
loop-other-preserved c = kept_more _ _ _ _ c.loop-other.invariant c.in_ok-push_if_same.ensures
