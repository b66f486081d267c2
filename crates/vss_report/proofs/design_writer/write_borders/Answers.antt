-- Why `write_borders` does what its contract says.
use Rattle.std.proofs.Common.{arith}
use Rattle.vss_io.proofs.CallLaws.{HasPrinted-nothing, HasPrinted-put}
use Rattle.vss_report.specs.Outcomes.{border_line}
use Rattle.vss_report.proofs.ReportTexts.{texts_stopped, texts_ended, next_line_at, no_line}
use Rattle.vss_report.proofs.design_writer.write_borders.Goals as goal

pub loop-border-init : goal.loop-border-init
loop-border-init g c = HasPrinted-nothing _ _

pub returns-in_err-write_border : goal.returns-in_err-write_border
returns-in_err-write_border g c =
    texts_stopped _ _ _ _ _ _ _ _ _ c.loop-border.invariant c.in_err-write_border.ensures (next_line_at (border_line c.args.labels.now) c.args.borders.now c.loop-border.border-index _ (omega arith)) c.from_residual.ensures.0

pub loop-border-preserved : goal.loop-border-preserved
loop-border-preserved g c =
    HasPrinted-put _ _ _ _ _ _ _ _ c.loop-border.invariant c.in_ok-write_border.ensures (next_line_at (border_line c.args.labels.now) c.args.borders.now c.loop-border.border-index _ (omega arith))

pub returns : goal.returns
returns g c = texts_ended _ _ _ _ _ c.loop-border.invariant (no_line (border_line c.args.labels.now) c.args.borders.now c.loop-border.border-index (omega arith))
