-- The line of a log that isn't accepted is the one that is printed.
use Rattle.vss_answers.specs.CheckTexts.{not_proved_text}
use Rattle.vss_answers.proofs.check_lines.print_not_proved.Goals as goal

pub returns : goal.returns
unfolding not_proved_text
returns g c = rw (c.as_bytes-line.ensures.value, c.format.ensures.text) at c.print_line.ensures
