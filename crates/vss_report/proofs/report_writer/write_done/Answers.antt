-- Why `write_done` does what its contract says.
use Rattle.std.proofs.Common.{◌∷◌, ◌++◌, refl}
use Rattle.vss_io.proofs.CallLaws.{Prints-then, Prints-stopped}
use Rattle.vss_report.specs.Lines.{verdict_done, full_text, text_of_lines}
use Rattle.vss_report.specs.Outcomes.{lines_of_design, lines_of_smaller}
use Rattle.vss_report.proofs.ReportTexts.{behind_lines}
use Rattle.vss_report.proofs.report_writer.write_done.Goals as goal

pub returns-in_err-print_line : goal.returns-in_err-print_line
returns-in_err-print_line g c =
    let design = lines_of_design c.args.labels.now c.args.design.now.layout c.args.design.now.plan in
    Prints-stopped _ _ (full_text verdict_done) (text_of_lines (design ++ lines_of_smaller c.args.design.now.smaller)) _ _ _ c.in_err-print_line.ensures refl c.from_residual.ensures.0

pub returns-in_err-write_design : goal.returns-in_err-write_design
returns-in_err-write_design g c =
    let design = lines_of_design c.args.labels.now c.args.design.now.layout c.args.design.now.plan in
    let smaller = lines_of_smaller c.args.design.now.smaller in
    let so_far = Prints-then _ _ _ (full_text verdict_done) (text_of_lines design) (text_of_lines (verdict_done ∷ design)) _ _ c.in_ok-print_line.ensures (rw c.borders.ensures at c.in_err-write_design.ensures) refl in
    Prints-stopped _ _ (text_of_lines (verdict_done ∷ design)) (text_of_lines smaller) _ _ _ so_far (behind_lines (verdict_done ∷ design) smaller) c.from_residual-in_err-write_design.ensures.0

pub returns : goal.returns
returns g c =
    let design = lines_of_design c.args.labels.now c.args.design.now.layout c.args.design.now.plan in
    let smaller = lines_of_smaller c.args.design.now.smaller in
    let so_far = Prints-then _ _ _ (full_text verdict_done) (text_of_lines design) (text_of_lines (verdict_done ∷ design)) _ _ c.in_ok-print_line.ensures (rw c.borders.ensures at c.in_ok-write_design.ensures) refl in
    Prints-then _ _ _ (text_of_lines (verdict_done ∷ design)) (text_of_lines smaller) _ _ _ so_far c.write_smaller.ensures (behind_lines (verdict_done ∷ design) smaller)
