-- Why `sections_of` does what its contract says.
use Rattle.clause_encoder.proofs.NetworkLemmas.{mapped_more}
use Rattle.clause_encoder.proofs.network.sections_of.Goals as goal

pub loop-cell-preserved : goal.loop-cell-preserved
loop-cell-preserved c = mapped_more (λ s. s.section.0) c.args.inst.now.cells c.loop-cell.cell _ _ c.cell.result c.loop-cell.invariant c.in_ok-push.ensures.items c.cell.ensures
