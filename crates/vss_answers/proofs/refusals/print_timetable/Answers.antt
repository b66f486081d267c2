-- The line of each refusal of a timetable is the one that is printed.
use Rattle.vss_answers.specs.RefusalTexts.{timetable_refusal_text}
use Rattle.vss_answers.proofs.Nothing.{prints_nothing}
use Rattle.vss_answers.proofs.refusals.print_timetable.Goals as goal

pub returns-in-NotJson : goal.returns-in-NotJson
unfolding timetable_refusal_text
returns-in-NotJson g c = rw c.in-NotJson.is c.print_refused.ensures

pub returns-in-Shape : goal.returns-in-Shape
unfolding timetable_refusal_text
returns-in-Shape g c = rw (c.in-Shape.is, ← c.word_of_time_member.ensures) c.print_refused-in-Shape.ensures

pub returns-in-Named : goal.returns-in-Named
unfolding timetable_refusal_text
returns-in-Named g c = rw (c.in-Named.is, ← c.word_of_time_fault.ensures, ← c.word_of_list.ensures) c.print_refused-in-Named.ensures

pub returns-in-Memory : goal.returns-in-Memory
unfolding timetable_refusal_text
returns-in-Memory g c = rw c.in-Memory.is (prints_nothing _ _)
