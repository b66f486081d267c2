-- What is right to answer to a job: the answer that tells how its task ends.
use Rattle.std.specs.Prelude.{◌≡◌, ◌+◌, ℕ, List, length, Some, None, Result, Ok}
use Rattle.cell_net.specs.Rules.{IsInstance}
use Rattle.cell_net.specs.declared.ids.CandidateId.{CandidateId}
use Rattle.cell_net.specs.declared.labels.Labels.{Labels}
use Rattle.cell_net.specs.declared.parts.InstanceParts.{InstanceParts}
use Rattle.cell_net.specs.declared.plans.Plan.{Plan}
use Rattle.clause_encoder.specs.declared.task.EncodeRefusal.{EncodeRefusal}
use Rattle.derivation_log.specs.declared.step.Refutation.{Refutation}
use Rattle.log_checker.specs.declared.verdict.LogVerdict.{LogVerdict}
use Rattle.log_checker.specs.declared.verdict.LogVerdict.TheVariants as log_verdict
use Rattle.plan_checker.specs.Verdicts.{IsPlanVerdict}
use Rattle.plan_checker.specs.declared.judging.Verdict.{Verdict}
use Rattle.plan_checker.specs.declared.judging.Verdict.TheVariants as verdict
use Rattle.task_driver.specs.Questions.{Question, of_kept, of_at_most, of_fewest}
use Rattle.task_driver.specs.TaskEnds.{IsSearchEnd, IsCheckEnd}
use Rattle.vss_report.specs.declared.outcome.Outcome.{Outcome}
use Rattle.vss_stages.specs.Stages.{HandsOn}
use Rattle.vss_stages.specs.declared.stop.Stop.{Stop}
use Rattle.vss_jobs.specs.Settings.{Setting}
use Rattle.vss_jobs.specs.Readings.{Job, judging, checking, searching, making, trying, size_stop}
use Rattle.vss_jobs.specs.declared.job.Search.{Search}
use Rattle.vss_jobs.specs.declared.job.Search.TheVariants as search
use Rattle.vss_jobs.specs.declared.refusal.Refusal.{Refusal}
use Rattle.vss_answers.specs.declared.answer.Answer.{Answer}
use Rattle.vss_answers.specs.declared.answer.Answer.TheVariants as answer

-- the question of a search; where no number of borders is given, it is that of the candidates
abbrev pub question_of : InstanceParts → Search → Question
question_of p search.Verify = of_kept
question_of p (search.Generate None) = of_at_most (length p.candidates)
question_of p (search.Generate (Some most)) = of_at_most most
question_of p search.Optimise = of_fewest

-- the search of a scene ends so
pub record SearchEnds (setting : Setting) (question : Question) (budget : ℕ) (end : Result Outcome EncodeRefusal) : Type 0 where
  pub is_instance : IsInstance setting.parts
  pub ends_so : IsSearchEnd setting.parts question budget end

-- the check of a refutation ends so
pub record CheckEnds (setting : Setting) (refutation : Refutation) (end : Result LogVerdict EncodeRefusal) : Type 0 where
  pub is_instance : IsInstance setting.parts
  pub ends_so : IsCheckEnd setting.parts refutation end

-- the answer that tells a verdict on a plan
abbrev pub judged_answer : Labels → List CandidateId → Verdict → Answer
judged_answer labels borders verdict.Lawful = answer.Lawful (length borders)
judged_answer labels borders (verdict.Breach breach) = answer.Breach breach labels

-- the answer that tells a verdict on a log, which begins behind that line of the report
abbrev pub checked_answer : Refutation → ℕ → LogVerdict → Answer
checked_answer refutation line log_verdict.Refutes = answer.Proved refutation.bound
checked_answer refutation line (log_verdict.Bad index fault) = answer.NotProved (line + 1 + index) fault
checked_answer refutation line log_verdict.NoEmptyClause = answer.NoEmptyClause (line + 1 + length refutation.log.steps)

-- the answers that tell an outcome
abbrev pub found_answer : Setting → Outcome → Answer
found_answer setting outcome = answer.Found outcome setting.labels

abbrev pub tried_answer : Setting → Outcome → Answer
tried_answer setting outcome = answer.Tried outcome setting.parts

-- the judge's verdict on the plan, lawful or its first breach, is told
pub record IsJudged (setting : Setting) (borders : List CandidateId) (plan : Plan) (end : Result Answer (Stop Refusal)) : Type 0 where
  pub found : Verdict
  pub is : IsPlanVerdict setting.parts borders plan found
  pub told : end ≡ Ok (judged_answer setting.labels borders found)

-- the texts are told
abbrev pub IsMade : List ℕ → List ℕ → Result Answer (Stop Refusal) → Type 0
IsMade network timetable end = end ≡ Ok (answer.Made network timetable)

abbrev pub IsRightAnswer : Job → Result Answer (Stop Refusal) → Type 0
IsRightAnswer (judging setting borders plan) = IsJudged setting borders plan
IsRightAnswer (checking setting refutation line) = HandsOn (CheckEnds setting refutation) (checked_answer refutation line) size_stop
IsRightAnswer (searching setting asks budget) = HandsOn (SearchEnds setting (question_of setting.parts asks) budget) (found_answer setting) size_stop
IsRightAnswer (making network timetable) = IsMade network timetable
IsRightAnswer (trying setting budget) = HandsOn (SearchEnds setting of_fewest budget) (tried_answer setting) size_stop
