-- Why `rows_of` does what its contract says.
use Rattle.std.proofs.Common.{◌∙◌, sym}
use Rattle.clause_list.specs.Numbers.{section_of}
use Rattle.clause_encoder.specs.NetworkStore.{sections_alone}
use Rattle.clause_encoder.proofs.MarkLemmas.{rows_none}
use Rattle.clause_encoder.proofs.NetworkLemmas.{grown}
use Rattle.clause_encoder.proofs.network.rows_of.Goals as goal

pub loop-cell-init : goal.loop-cell-init
loop-cell-init c = c.new-rows.ensures ∙ sym (rows_none _)

pub loop-cell-preserved : goal.loop-cell-preserved
loop-cell-preserved c = grown (section_of (sections_alone c.args.sections.now)) c.loop-cell.cell c.loop-cell.rows _ c.deref.result.now c.loop-cell.invariant c.in_ok-push.ensures.ok (c.deref.ensures.value ∙ c.in_ok-row.ensures)
