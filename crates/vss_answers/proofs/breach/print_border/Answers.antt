-- Where there is no such candidate, the line has no place.
use Rattle.vss_answers.proofs.breach.print_border.Goals as goal

pub returns-in-None : goal.returns-in-None
returns-in-None g c = rw (← c.in-None.ensures.value) c.print_line.ensures
