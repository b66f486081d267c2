-- Why `borders_of` does what its contract says.
use Rattle.std.proofs.Common.{◌∙◌, sym}
use Rattle.clause_list.specs.Numbers.{is, border}
use Rattle.clause_encoder.proofs.MarkLemmas.{rows_none}
use Rattle.clause_encoder.proofs.NetworkLemmas.{grown}
use Rattle.clause_encoder.proofs.counts.borders_of.Goals as goal

pub loop-candidate-init : goal.loop-candidate-init
loop-candidate-init c = c.new-borders.ensures.items ∙ sym (rows_none _)

pub loop-candidate-preserved : goal.loop-candidate-preserved
loop-candidate-preserved c = grown (λ n. is (border n)) c.loop-candidate.candidate _ _ c.is.result c.loop-candidate.invariant c.in_ok-push.ensures.items c.is.ensures
