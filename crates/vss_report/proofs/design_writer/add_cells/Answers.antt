-- Why `add_cells` does what its contract says.
use Rattle.std.proofs.Common.{arith}
use Rattle.vss_io.proofs.CallLaws.{HasPrinted-nothing, HasPrinted-more, HasPrinted-stopped}
use Rattle.vss_report.proofs.ReportTexts.{next_cell, no_cell, all_kept}
use Rattle.vss_report.proofs.design_writer.add_cells.Goals as goal

pub loop-cell-init : goal.loop-cell-init
loop-cell-init g c = HasPrinted-nothing _ _

pub returns-in_err-add_cell : goal.returns-in_err-add_cell
returns-in_err-add_cell g c =
    HasPrinted-stopped _ _ _ _ _ _ _ _ _ _ _ c.loop-cell.invariant c.in_err-add_cell.ensures (next_cell c.args.labels.now _ c.args.cells.now c.loop-cell.cell-index _ (omega arith)) c.from_residual.ensures.0

pub loop-cell-preserved : goal.loop-cell-preserved
loop-cell-preserved g c =
    HasPrinted-more _ _ _ _ _ _ _ _ _ c.loop-cell.invariant c.in_ok-add_cell.ensures (next_cell c.args.labels.now _ c.args.cells.now c.loop-cell.cell-index _ (omega arith))

pub returns : goal.returns
returns g c = all_kept _ _ _ _ _ _ c.loop-cell.invariant (no_cell c.args.labels.now c.loop-cell.text c.args.cells.now c.loop-cell.cell-index (omega arith))
