-- Why `write_impossible` does what its contract says.
use Rattle.std.proofs.Common.{refl}
use Rattle.vss_io.proofs.CallLaws.{Prints-then, Prints-stopped}
use Rattle.vss_report.specs.Lines.{verdict_impossible, full_text, text_of_lines}
use Rattle.vss_report.specs.Outcomes.{lines_of_refutation}
use Rattle.vss_report.proofs.report_writer.write_impossible.Goals as goal

pub returns-in_err-print_line : goal.returns-in_err-print_line
returns-in_err-print_line g c =
    Prints-stopped _ _ (full_text verdict_impossible) (text_of_lines (lines_of_refutation c.args.refutation.now)) _ _ _ c.in_err-print_line.ensures refl c.from_residual.ensures.0

pub returns : goal.returns
returns g c =
    Prints-then _ _ _ (full_text verdict_impossible) (text_of_lines (lines_of_refutation c.args.refutation.now)) _ _ _ c.in_ok-print_line.ensures c.write_refutation.ensures refl
