-- Why `write_refutation` does what its contract says.
use Rattle.std.proofs.Common.{◌∷◌, [], map}
use Rattle.vss_io.proofs.CallLaws.{Prints-then, Prints-stopped}
use Rattle.vss_report.specs.Lines.{refutes, step, text_of_lines}
use Rattle.vss_report.proofs.ReportTexts.{behind_lines}
use Rattle.vss_report.proofs.report_writer.write_refutation.Goals as goal

pub returns-in_err-write_bound : goal.returns-in_err-write_bound
returns-in_err-write_bound g c =
    let steps = map step c.args.refutation.now.log.steps in
    Prints-stopped _ _ (text_of_lines (refutes c.args.refutation.now.bound ∷ [])) (text_of_lines steps) _ _ _ c.in_err-write_bound.ensures (behind_lines (refutes c.args.refutation.now.bound ∷ []) steps) c.from_residual.ensures.0

pub returns : goal.returns
returns g c =
    let steps = map step c.args.refutation.now.log.steps in
    Prints-then _ _ _ (text_of_lines (refutes c.args.refutation.now.bound ∷ [])) (text_of_lines steps) _ _ _ c.in_ok-write_bound.ensures (rw c.as_slice.ensures at c.write_steps.ensures) (behind_lines (refutes c.args.refutation.now.bound ∷ []) steps)
