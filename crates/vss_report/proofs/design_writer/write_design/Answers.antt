-- Why `write_design` does what its contract says.
use Rattle.std.proofs.Common.{◌∷◌, ◌++◌, length, map, refl}
use Rattle.vss_io.proofs.CallLaws.{Prints-then, Prints-stopped}
use Rattle.vss_report.specs.Designs.{lines_of_runs}
use Rattle.vss_report.specs.Lines.{count, full_text, text_of_lines}
use Rattle.vss_report.specs.Outcomes.{border_line}
use Rattle.vss_report.proofs.ReportTexts.{behind_lines, prints_same, count_line}
use Rattle.vss_report.proofs.design_writer.write_design.Goals as goal

pub returns-in_err-write_count : goal.returns-in_err-write_count
returns-in_err-write_count g c =
    let borders = map (border_line c.args.labels.now) c.args.borders.now in
    let runs = lines_of_runs c.args.labels.now 0 c.args.plan.now.runs in
    let counted = prints_same _ _ _ _ _ (count_line (length c.args.borders.now)) c.in_err-write_count.ensures in
    Prints-stopped _ _ (full_text (count (length c.args.borders.now))) (text_of_lines (borders ++ runs)) _ _ _ counted refl c.from_residual.ensures.0

pub returns-in_err-write_borders : goal.returns-in_err-write_borders
returns-in_err-write_borders g c =
    let borders = map (border_line c.args.labels.now) c.args.borders.now in
    let runs = lines_of_runs c.args.labels.now 0 c.args.plan.now.runs in
    let counted = prints_same _ _ _ _ _ (count_line (length c.args.borders.now)) c.in_ok-write_count.ensures in
    let so_far = Prints-then _ _ _ (full_text (count (length c.args.borders.now))) (text_of_lines borders) (text_of_lines (count (length c.args.borders.now) ∷ borders)) _ _ counted c.in_err-write_borders.ensures refl in
    Prints-stopped _ _ (text_of_lines (count (length c.args.borders.now) ∷ borders)) (text_of_lines runs) _ _ _ so_far (behind_lines (count (length c.args.borders.now) ∷ borders) runs) c.from_residual-in_err-write_borders.ensures.0

pub returns : goal.returns
returns g c =
    let borders = map (border_line c.args.labels.now) c.args.borders.now in
    let runs = lines_of_runs c.args.labels.now 0 c.args.plan.now.runs in
    let counted = prints_same _ _ _ _ _ (count_line (length c.args.borders.now)) c.in_ok-write_count.ensures in
    let so_far = Prints-then _ _ _ (full_text (count (length c.args.borders.now))) (text_of_lines borders) (text_of_lines (count (length c.args.borders.now) ∷ borders)) _ _ counted c.in_ok-write_borders.ensures refl in
    Prints-then _ _ _ (text_of_lines (count (length c.args.borders.now) ∷ borders)) (text_of_lines runs) _ _ _ so_far (rw c.as_slice.ensures at c.write_runs.ensures) (behind_lines (count (length c.args.borders.now) ∷ borders) runs)
