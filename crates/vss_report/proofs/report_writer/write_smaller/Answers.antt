-- Why `write_smaller` does what its contract says.
use Rattle.vss_report.proofs.ReportTexts.{prints_nothing}
use Rattle.vss_report.proofs.report_writer.write_smaller.Goals as goal

pub returns-in-NotAsked : goal.returns-in-NotAsked
returns-in-NotAsked g c = rw c.in-NotAsked.is (prints_nothing _ _)

pub returns-in-Nothing : goal.returns-in-Nothing
returns-in-Nothing g c = rw c.in-Nothing.is c.print_line.ensures

pub returns-in-Refuted : goal.returns-in-Refuted
returns-in-Refuted g c = rw c.in-Refuted.is c.write_refutation.ensures
