-- Why `write_steps` does what its contract says.
use Rattle.std.proofs.Common.{◌+◌, drop, map, arith}
use Rattle.vss_io.proofs.CallLaws.{HasPrinted-nothing, HasPrinted-put}
use Rattle.vss_report.specs.Lines.{step, full_text, text_of_lines}
use Rattle.vss_report.proofs.ReportTexts.{texts_stopped, texts_ended, next_line, no_line}
use Rattle.vss_report.proofs.report_writer.write_steps.Goals as goal

pub loop-step-init : goal.loop-step-init
loop-step-init g c = HasPrinted-nothing _ _

pub returns-in_err-write_step : goal.returns-in_err-write_step
returns-in_err-write_step g c =
    texts_stopped _ _ _ _ _ (full_text (step c.step-item.result)) (text_of_lines (map step (drop (c.loop-step.step-index + 1) c.args.steps.now))) _ _ c.loop-step.invariant c.in_err-write_step.ensures
    (next_line step c.args.steps.now c.loop-step.step-index c.step-item.result (omega arith) c.step-item.is) c.from_residual.ensures.0

pub loop-step-preserved : goal.loop-step-preserved
loop-step-preserved g c =
    HasPrinted-put _ _ _ _ _ (full_text (step c.step-item.result)) _ _ c.loop-step.invariant c.in_ok-write_step.ensures (next_line step c.args.steps.now c.loop-step.step-index c.step-item.result (omega arith) c.step-item.is)

pub returns : goal.returns
returns g c = texts_ended _ _ _ _ _ c.loop-step.invariant (no_line step c.args.steps.now c.loop-step.step-index (omega arith))
