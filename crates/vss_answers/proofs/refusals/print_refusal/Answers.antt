-- The line of each refusal is the one that is printed.
use Rattle.vss_answers.specs.RefusalTexts.{refusal_text}
use Rattle.vss_answers.proofs.refusals.print_refusal.Goals as goal

pub returns-in-Network : goal.returns-in-Network
unfolding refusal_text
returns-in-Network g c = rw c.in-Network.is c.print_network.ensures

pub returns-in-Timetable : goal.returns-in-Timetable
unfolding refusal_text
returns-in-Timetable g c = rw c.in-Timetable.is c.print_timetable.ensures

pub returns-in-Grid : goal.returns-in-Grid
unfolding refusal_text
returns-in-Grid g c = rw c.in-Grid.is c.print_grid.ensures

pub returns-in-Report : goal.returns-in-Report
unfolding refusal_text
returns-in-Report g c = rw c.in-Report.is c.print_report.ensures

pub returns-in-Sizes : goal.returns-in-Sizes
unfolding refusal_text
returns-in-Sizes g c = rw c.in-Sizes.is c.print_sizes.ensures
