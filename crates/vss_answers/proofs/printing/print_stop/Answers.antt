-- The line of each stop is the one that is printed.
use Rattle.vss_answers.specs.Texts.{stop_text}
use Rattle.vss_answers.proofs.Nothing.{prints_nothing}
use Rattle.vss_answers.proofs.printing.print_stop.Goals as goal

pub returns-in-Usage : goal.returns-in-Usage
unfolding stop_text
returns-in-Usage g c = rw c.in-Usage.is c.print_line.ensures

pub returns-in-ReadFault : goal.returns-in-ReadFault
unfolding stop_text
returns-in-ReadFault g c = rw (c.in-ReadFault.is, ← c.word_of.ensures) c.print_line-in-ReadFault.ensures

pub returns-in-TooLong : goal.returns-in-TooLong
unfolding stop_text
returns-in-TooLong g c = rw (c.in-TooLong.is, ← c.word_of-in-TooLong.ensures) c.print_line-in-TooLong.ensures

pub returns-in-Refused : goal.returns-in-Refused
unfolding stop_text
returns-in-Refused g c = rw c.in-Refused.is c.print_refusal.ensures

pub returns-in-Memory : goal.returns-in-Memory
unfolding stop_text
returns-in-Memory g c = rw c.in-Memory.is (prints_nothing _ _)
