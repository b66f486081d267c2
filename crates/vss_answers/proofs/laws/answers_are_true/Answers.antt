-- What tasks show is true.
use Rattle.vss_answers.proofs.TrueAnswer.{true_answer}
use Rattle.vss_answers.proofs.laws.answers_are_true.Goals as goal

pub returns : goal.returns
returns c = true_answer (record { outcomes = c.outcomes_are_true.ensures.outcomes; refutations = c.outcomes_are_true.ensures.refutations })
