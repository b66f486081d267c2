-- What an answer says of layouts and plans, by their rules alone.
use Rattle.std.specs.Prelude.{Result, Ok}
use Rattle.task_driver.specs.Questions.{of_fewest, IsPossible}
use Rattle.task_driver.specs.Outcomes.{Answers}
use Rattle.vss_stages.specs.declared.stop.Stop.{Stop}
use Rattle.vss_jobs.specs.Readings.{Job, checking, searching, trying}
use Rattle.vss_jobs.specs.declared.refusal.Refusal.{Refusal}
use Rattle.vss_answers.specs.Answers.{question_of}
use Rattle.vss_answers.specs.declared.answer.Answer.{Answer}
use Rattle.vss_answers.specs.declared.answer.Answer.TheVariants as answer

-- where a log is told to refute, nothing within its bound is feasible; where a search tells a design, it was asked for,
-- lawful, and of the fewest borders, where these were asked for; and where it tells that there is none, there is none
abbrev pub IsTrueAnswer : Job → Result Answer (Stop Refusal) → Type 0
IsTrueAnswer (checking setting refutation line) (Ok (answer.Proved bound)) = ¬ IsPossible setting.parts bound
IsTrueAnswer (searching setting asks budget) (Ok (answer.Found outcome labels)) = Answers setting.parts (question_of setting.parts asks) outcome
IsTrueAnswer (trying setting budget) (Ok (answer.Tried outcome inst)) = Answers setting.parts of_fewest outcome
IsTrueAnswer job said = Unit {0}
