-- Why `write_bound` does what its contract says.
use Rattle.std.proofs.Common.{◌∙◌, sym, append-nil}
use Rattle.vss_report.proofs.ReportTexts.{prints_same, most_line}
use Rattle.vss_report.proofs.report_writer.write_bound.Goals as goal

pub returns-in-AtMost : goal.returns-in-AtMost
returns-in-AtMost g c = rw c.in-AtMost.is (prints_same _ _ _ _ _ (most_line _ ∙ sym (append-nil _)) c.write_numbered.ensures)
