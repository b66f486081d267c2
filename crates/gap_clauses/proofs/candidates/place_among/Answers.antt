-- Why `place_among` does what its contract says.
use Rattle.std.proofs.Common.{◌∙◌, ap}
use Rattle.std.proofs.lemmas.List.{get_or_default}
use Rattle.cell_net.specs.declared.ids.NodeId.{NodeId}
use Rattle.gap_clauses.proofs.MarkLemmas.{not_at_point}
use Rattle.gap_clauses.proofs.candidates.place_among.Goals as goal

pub returns-else-candidates-at : goal.returns-else-candidates-at
returns-else-candidates-at c = not_at_point c.args.candidates.now c.args.node c.count_below-at.result c.requires c.count_below-at.ensures.split
    (λ inside same. c.if-candidates-at.false (ap (λ (n : NodeId). n.0) (get_or_default c.args.candidates.now c.count_below-at.result (record { 0 = 0 }) c.args.node inside) ∙ same))
