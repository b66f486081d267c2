-- Why `write_spent` does what its contract says.
use Rattle.std.proofs.Common.{◌∷◌, ◌++◌, refl}
use Rattle.vss_io.proofs.CallLaws.{Prints-then, Prints-stopped}
use Rattle.vss_report.specs.Lines.{verdict_spent, conflicts, full_text, text_of_lines}
use Rattle.vss_report.specs.Outcomes.{lines_of_best}
use Rattle.vss_report.proofs.ReportTexts.{prints_same, conflicts_line}
use Rattle.vss_report.proofs.report_writer.write_spent.Goals as goal

pub returns-in_err-print_line : goal.returns-in_err-print_line
returns-in_err-print_line g c =
    Prints-stopped _ _ (full_text verdict_spent) (text_of_lines (conflicts c.args.count ∷ lines_of_best c.args.labels.now c.args.best.now)) _ _ _ c.in_err-print_line.ensures refl c.from_residual.ensures.0

pub returns-in_err-write_numbered : goal.returns-in_err-write_numbered
returns-in_err-write_numbered g c =
    let best = lines_of_best c.args.labels.now c.args.best.now in
    let counted = prints_same _ _ _ _ _ (conflicts_line c.args.count) c.in_err-write_numbered.ensures in
    let so_far = Prints-then _ _ _ (full_text verdict_spent) (full_text (conflicts c.args.count)) (full_text verdict_spent ++ full_text (conflicts c.args.count)) _ _ c.in_ok-print_line.ensures counted refl in
    Prints-stopped _ _ (full_text verdict_spent ++ full_text (conflicts c.args.count)) (text_of_lines best) _ _ _ so_far refl c.from_residual-in_err-write_numbered.ensures.0

pub returns : goal.returns
returns g c =
    let best = lines_of_best c.args.labels.now c.args.best.now in
    let counted = prints_same _ _ _ _ _ (conflicts_line c.args.count) c.in_ok-write_numbered.ensures in
    let so_far = Prints-then _ _ _ (full_text verdict_spent) (full_text (conflicts c.args.count)) (full_text verdict_spent ++ full_text (conflicts c.args.count)) _ _ c.in_ok-print_line.ensures counted refl in
    Prints-then _ _ _ (full_text verdict_spent ++ full_text (conflicts c.args.count)) (text_of_lines best) _ _ _ so_far c.write_best.ensures refl
