-- One answer is right, since a plan has one first breach, and tasks end alike.
use Rattle.vss_answers.proofs.OneAnswer.{one_answer}
use Rattle.vss_answers.proofs.laws.answers_are_one.Goals as goal

pub returns : goal.returns
returns c = one_answer (record {
  breaches = c.first_breaches_are_one.ensures;
  checks = c.checks_are_one.ensures;
  searches = c.searches_end_alike.ensures;
})
