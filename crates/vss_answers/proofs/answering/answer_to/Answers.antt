-- The answer of the checker is that of its job.
use Rattle.vss_answers.proofs.answering.answer_to.Goals as goal

pub returns-in-Check : goal.returns-in-Check
returns-in-Check g c = rw c.in-Check.is c.checked.ensures
