-- The line of each fault of a report is the one that is printed.
use Rattle.vss_answers.specs.RefusalTexts.{report_refusal_text}
use Rattle.vss_answers.proofs.Nothing.{prints_nothing}
use Rattle.vss_answers.proofs.refusals.print_report.Goals as goal

pub returns-in-BadLine : goal.returns-in-BadLine
unfolding report_refusal_text
returns-in-BadLine g c = rw c.in-BadLine.is c.print_refused.ensures

pub returns-in-UnknownName : goal.returns-in-UnknownName
unfolding report_refusal_text
returns-in-UnknownName g c = rw c.in-UnknownName.is c.print_refused-in-UnknownName.ensures

pub returns-in-NoPart : goal.returns-in-NoPart
unfolding report_refusal_text
returns-in-NoPart g c = rw c.in-NoPart.is c.print_refused-in-NoPart.ensures

pub returns-in-Memory : goal.returns-in-Memory
unfolding report_refusal_text
returns-in-Memory g c = rw c.in-Memory.is (prints_nothing _ _)
