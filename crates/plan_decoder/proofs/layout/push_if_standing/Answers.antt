-- One candidate more.
use Rattle.plan_decoder.proofs.LayoutLemmas.{standing_more, standing_same}
use Rattle.plan_decoder.proofs.layout.push_if_standing.Goals as goal

pub returns-in_ok-push : goal.returns-in_ok-push
returns-in_ok-push c = standing_more c.args.values.now c.args.candidate.0 c.border.result.0 c.value_of.result c.args.borders.now.items c.push.new.self.items c.requires.so_far c.in_ok-push.ensures.items c.border.ensures c.value_of.ensures c.if-value_of.true

pub returns-else-value_of : goal.returns-else-value_of
returns-else-value_of c = standing_same c.args.values.now c.args.candidate.0 c.border.result.0 c.value_of.result c.args.borders.now.items c.requires.so_far c.border.ensures c.value_of.ensures c.if-value_of.false
