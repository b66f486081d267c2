-- Why `write_sweeps` does what its contract says.
use Rattle.std.proofs.Common.{◌+◌, drop, map, arith}
use Rattle.vss_io.proofs.CallLaws.{HasPrinted-nothing, HasPrinted-put}
use Rattle.vss_report.specs.Lines.{full_text, text_of_lines}
use Rattle.vss_report.specs.Designs.{sweep_line}
use Rattle.vss_report.proofs.ReportTexts.{texts_stopped, texts_ended, next_line, no_line}
use Rattle.vss_report.proofs.design_writer.write_sweeps.Goals as goal

pub loop-sweep-init : goal.loop-sweep-init
loop-sweep-init g c = HasPrinted-nothing _ _

pub returns-in_err-write_sweep : goal.returns-in_err-write_sweep
returns-in_err-write_sweep g c =
    texts_stopped _ _ _ _ _ (full_text (sweep_line c.args.labels.now c.sweep-item.result)) (text_of_lines (map (sweep_line c.args.labels.now) (drop (c.loop-sweep.sweep-index + 1) c.args.sweeps.now))) _ _ c.loop-sweep.invariant (rw c.as_slice.ensures at c.in_err-write_sweep.ensures)
    (next_line (sweep_line c.args.labels.now) c.args.sweeps.now c.loop-sweep.sweep-index c.sweep-item.result (omega arith) c.sweep-item.is) c.from_residual.ensures.0

pub loop-sweep-preserved : goal.loop-sweep-preserved
loop-sweep-preserved g c =
    HasPrinted-put _ _ _ _ _ (full_text (sweep_line c.args.labels.now c.sweep-item.result)) _ _ c.loop-sweep.invariant (rw c.as_slice.ensures at c.in_ok-write_sweep.ensures) (next_line (sweep_line c.args.labels.now) c.args.sweeps.now c.loop-sweep.sweep-index c.sweep-item.result (omega arith) c.sweep-item.is)

pub returns : goal.returns
returns g c = texts_ended _ _ _ _ _ c.loop-sweep.invariant (no_line (sweep_line c.args.labels.now) c.args.sweeps.now c.loop-sweep.sweep-index (omega arith))
