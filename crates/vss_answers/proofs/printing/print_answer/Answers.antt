-- The text of each answer is the one that is printed.
use Rattle.vss_answers.specs.Texts.{answer_text}
use Rattle.vss_answers.proofs.printing.print_answer.Goals as goal

pub returns-in-Lawful : goal.returns-in-Lawful
unfolding answer_text
returns-in-Lawful g c = rw c.in-Lawful.is (rw (c.as_bytes.ensures.value, c.format.ensures.text) at c.print_line.ensures)

pub returns-in-Breach : goal.returns-in-Breach
unfolding answer_text
returns-in-Breach g c = rw c.in-Breach.is c.print_breach.ensures

pub returns-in-Proved : goal.returns-in-Proved
unfolding answer_text
returns-in-Proved g c = rw c.in-Proved.is c.print_proved.ensures

pub returns-in-NotProved : goal.returns-in-NotProved
unfolding answer_text
returns-in-NotProved g c = rw (c.in-NotProved.is, ← c.word_of_step_fault.ensures) c.print_not_proved.ensures

pub returns-in-NoEmptyClause : goal.returns-in-NoEmptyClause
unfolding answer_text
returns-in-NoEmptyClause g c = rw c.in-NoEmptyClause.is c.print_not_proved-in-NoEmptyClause.ensures

pub returns-in-Found : goal.returns-in-Found
unfolding answer_text
returns-in-Found g c = rw c.in-Found.is c.write_outcome.ensures

pub returns-in-Made : goal.returns-in-Made
unfolding answer_text
returns-in-Made g c = rw c.in-Made.is (rw (c.as_slice-network.ensures, c.as_slice-timetable.ensures) at c.print_case.ensures)

pub returns-in-Tried : goal.returns-in-Tried
unfolding answer_text
returns-in-Tried g c = rw c.in-Tried.is c.print_summary.ensures
