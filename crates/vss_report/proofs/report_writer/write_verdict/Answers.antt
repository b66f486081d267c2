-- Why `write_verdict` does what its contract says.
use Rattle.vss_report.proofs.report_writer.write_verdict.Goals as goal

pub returns-in-Done : goal.returns-in-Done
returns-in-Done g c = rw c.in-Done.is c.write_done.ensures

pub returns-in-Impossible : goal.returns-in-Impossible
returns-in-Impossible g c = rw c.in-Impossible.is c.write_impossible.ensures

pub returns-in-Spent : goal.returns-in-Spent
returns-in-Spent g c = rw c.in-Spent.is c.write_spent.ensures
