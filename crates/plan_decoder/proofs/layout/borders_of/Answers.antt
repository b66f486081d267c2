-- The start of the loop over candidates.
use Rattle.std.proofs.Common.{◌∙◌}
use Rattle.plan_decoder.proofs.LayoutLemmas.{no_candidate}
use Rattle.plan_decoder.proofs.layout.borders_of.Goals as goal

pub loop-number-init : goal.loop-number-init
loop-number-init c = c.new-borders.ensures.items ∙ no_candidate c.args.values.now
