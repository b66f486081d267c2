-- The line of each bound is the one that is printed.
use Rattle.vss_answers.specs.CheckTexts.{proved_text}
use Rattle.vss_answers.proofs.check_lines.print_proved.Goals as goal

pub returns-in-Given : goal.returns-in-Given
unfolding proved_text
returns-in-Given g c = rw c.in-Given.is c.print_line.ensures

pub returns-in-AtMost : goal.returns-in-AtMost
unfolding proved_text
returns-in-AtMost g c = rw c.in-AtMost.is (rw (c.as_bytes.ensures.value, c.format.ensures.text) at c.print_line-in-AtMost.ensures)
