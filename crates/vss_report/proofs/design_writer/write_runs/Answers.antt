-- Why `write_runs` does what its contract says.
use Rattle.std.proofs.Common.{◌+◌, drop, arith}
use Rattle.vss_io.proofs.CallLaws.{HasPrinted-nothing, HasPrinted-put}
use Rattle.vss_report.specs.Designs.{lines_of_run, lines_of_runs}
use Rattle.vss_report.specs.Lines.{text_of_lines}
use Rattle.vss_report.proofs.ReportTexts.{texts_stopped, texts_ended, next_run, no_run}
use Rattle.vss_report.proofs.design_writer.write_runs.Goals as goal

pub loop-place-init : goal.loop-place-init
loop-place-init g c = HasPrinted-nothing _ _

pub returns-in_err-write_run : goal.returns-in_err-write_run
returns-in_err-write_run g c =
    texts_stopped _ _ _ _ _ (text_of_lines (lines_of_run c.args.labels.now c.loop-place.place c.index-runs-place.result)) (text_of_lines (lines_of_runs c.args.labels.now (c.loop-place.place + 1) (drop (c.loop-place.place + 1) c.args.runs.now))) _ _ c.loop-place.invariant c.in_err-write_run.ensures
    (next_run c.args.labels.now c.args.runs.now c.loop-place.place c.index-runs-place.result (omega arith) c.index-runs-place.is) c.from_residual.ensures.0

pub loop-place-preserved : goal.loop-place-preserved
loop-place-preserved g c =
    HasPrinted-put _ _ _ _ _ (text_of_lines (lines_of_run c.args.labels.now c.loop-place.place c.index-runs-place.result)) _ _ c.loop-place.invariant c.in_ok-write_run.ensures
    (next_run c.args.labels.now c.args.runs.now c.loop-place.place c.index-runs-place.result (omega arith) c.index-runs-place.is)

pub returns : goal.returns
returns g c = texts_ended _ _ _ _ _ c.loop-place.invariant (no_run c.args.labels.now c.args.runs.now c.loop-place.place (omega arith))
