-- Why `write_outcome` does what its contract says.
use Rattle.std.proofs.Common.{◌∷◌, ◌++◌, [], refl}
use Rattle.vss_io.proofs.CallLaws.{Prints-then, Prints-stopped}
use Rattle.vss_report.specs.Lines.{header, end_line, full_text, text_of_lines}
use Rattle.vss_report.specs.Outcomes.{lines_of_verdict}
use Rattle.vss_report.proofs.ReportTexts.{behind_lines}
use Rattle.vss_report.proofs.report_writer.write_outcome.Goals as goal

pub returns-in_err-print_line : goal.returns-in_err-print_line
returns-in_err-print_line g c =
    Prints-stopped _ _ (full_text header) (text_of_lines (lines_of_verdict c.args.labels.now c.args.outcome.now ++ end_line ∷ [])) _ _ _ c.in_err-print_line.ensures refl c.from_residual.ensures.0

pub returns-in_err-write_verdict : goal.returns-in_err-write_verdict
returns-in_err-write_verdict g c =
    let verdict = lines_of_verdict c.args.labels.now c.args.outcome.now in
    let so_far = Prints-then _ _ _ (full_text header) (text_of_lines verdict) (text_of_lines (header ∷ verdict)) _ _ c.in_ok-print_line.ensures c.in_err-write_verdict.ensures refl in
    Prints-stopped _ _ (text_of_lines (header ∷ verdict)) (text_of_lines (end_line ∷ [])) _ _ _ so_far (behind_lines (header ∷ verdict) (end_line ∷ [])) c.from_residual-in_err-write_verdict.ensures.0

pub returns : goal.returns
returns g c =
    let verdict = lines_of_verdict c.args.labels.now c.args.outcome.now in
    let so_far = Prints-then _ _ _ (full_text header) (text_of_lines verdict) (text_of_lines (header ∷ verdict)) _ _ c.in_ok-print_line.ensures c.in_ok-write_verdict.ensures refl in
    Prints-then _ _ _ (text_of_lines (header ∷ verdict)) (text_of_lines (end_line ∷ [])) _ _ _ so_far c.print_line-2.ensures (behind_lines (header ∷ verdict) (end_line ∷ []))
