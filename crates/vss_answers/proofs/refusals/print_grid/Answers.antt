-- The line of each refusal of the grid is the one that is printed.
use Rattle.vss_answers.specs.RefusalTexts.{grid_refusal_text}
use Rattle.vss_answers.proofs.Nothing.{prints_nothing}
use Rattle.vss_answers.proofs.refusals.print_grid.Goals as goal

pub returns-in-Named : goal.returns-in-Named
unfolding grid_refusal_text
returns-in-Named g c = rw (c.in-Named.is, ← c.word_of_cut_fault.ensures, ← c.word_of_list.ensures) c.print_refused.ensures

pub returns-in-Memory : goal.returns-in-Memory
unfolding grid_refusal_text
returns-in-Memory g c = rw c.in-Memory.is (prints_nothing _ _)
