-- The line of each refusal of size is the one that is printed.
use Rattle.vss_answers.specs.RefusalTexts.{sizes_refusal_text}
use Rattle.vss_answers.proofs.Nothing.{prints_nothing}
use Rattle.vss_answers.proofs.refusals.print_sizes.Goals as goal

pub returns-in-TooManySweeps : goal.returns-in-TooManySweeps
unfolding sizes_refusal_text
returns-in-TooManySweeps g c = rw c.in-TooManySweeps.is c.print_refused.ensures

pub returns-in-TooManyWalks : goal.returns-in-TooManyWalks
unfolding sizes_refusal_text
returns-in-TooManyWalks g c = rw c.in-TooManyWalks.is c.print_refused-in-TooManyWalks.ensures

pub returns-in-TooManyVariables : goal.returns-in-TooManyVariables
unfolding sizes_refusal_text
returns-in-TooManyVariables g c = rw c.in-TooManyVariables.is c.print_refused-in-TooManyVariables.ensures

pub returns-in-TooManyClauses : goal.returns-in-TooManyClauses
unfolding sizes_refusal_text
returns-in-TooManyClauses g c = rw c.in-TooManyClauses.is c.print_refused-in-TooManyClauses.ensures

pub returns-in-TooManyLiterals : goal.returns-in-TooManyLiterals
unfolding sizes_refusal_text
returns-in-TooManyLiterals g c = rw c.in-TooManyLiterals.is c.print_refused-in-TooManyLiterals.ensures

pub returns-in-Memory : goal.returns-in-Memory
unfolding sizes_refusal_text
returns-in-Memory g c = rw c.in-Memory.is (prints_nothing _ _)
