-- Why `write_run` does what its contract says.
use Rattle.std.proofs.Common.{map, refl}
use Rattle.vss_io.proofs.CallLaws.{Prints-then, Prints-stopped}
use Rattle.vss_report.specs.Designs.{sweep_line}
use Rattle.vss_report.specs.Lines.{run, full_text, text_of_lines}
use Rattle.vss_report.specs.Names.{train_name}
use Rattle.vss_report.proofs.ReportTexts.{prints_same, run_line}
use Rattle.vss_report.proofs.design_writer.write_run.Goals as goal

pub returns-in_err-write_start : goal.returns-in_err-write_start
returns-in_err-write_start g c =
    let train = train_name c.args.labels.now (record { 0 = c.args.train }) in
    let started = prints_same _ _ _ _ _ (run_line train c.args.run.now.start) (rw c.name_at.ensures at c.in_err-write_start.ensures) in
    Prints-stopped _ _ (full_text (run train c.args.run.now.start)) (text_of_lines (map (sweep_line c.args.labels.now) c.args.run.now.sweeps)) _ _ _ started refl c.from_residual.ensures.0

pub returns : goal.returns
returns g c =
    let train = train_name c.args.labels.now (record { 0 = c.args.train }) in
    let started = prints_same _ _ _ _ _ (run_line train c.args.run.now.start) (rw c.name_at.ensures at c.in_ok-write_start.ensures) in
    Prints-then _ _ _ (full_text (run train c.args.run.now.start)) (text_of_lines (map (sweep_line c.args.labels.now) c.args.run.now.sweeps)) _ _ _ started (rw c.as_slice.ensures at c.write_sweeps.ensures) refl
