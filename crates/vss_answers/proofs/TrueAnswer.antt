-- A right answer is true.
use Rattle.std.proofs.Common.{ℕ, List, Result, Ok, Err, sym, subst}
use Rattle.cell_net.specs.declared.ids.CandidateId.{CandidateId}
use Rattle.cell_net.specs.declared.parts.InstanceParts.{InstanceParts}
use Rattle.clause_encoder.specs.declared.task.EncodeRefusal.{EncodeRefusal}
use Rattle.clause_encoder.specs.declared.task.EncodeRefusal.TheVariants as size
use Rattle.derivation_log.specs.declared.step.Refutation.{Refutation}
use Rattle.log_checker.specs.declared.verdict.LogVerdict.{LogVerdict}
use Rattle.log_checker.specs.declared.verdict.LogVerdict.TheVariants as log_verdict
use Rattle.plan_checker.specs.declared.judging.Verdict.{Verdict}
use Rattle.plan_checker.specs.declared.judging.Verdict.TheVariants as verdict
use Rattle.cell_net.specs.declared.plans.Plan.{Plan}
use Rattle.task_driver.specs.Questions.{of_fewest}
use Rattle.task_driver.specs.TaskEnds.{OutcomesAreTrue, RefutationsAreTrue}
use Rattle.vss_report.specs.declared.outcome.Outcome.{Outcome}
use Rattle.vss_stages.specs.Stages.{handed}
use Rattle.vss_stages.specs.declared.stop.Stop.{Stop}
use Rattle.vss_jobs.specs.Settings.{Setting}
use Rattle.vss_jobs.specs.Readings.{Job, judging, checking, searching, making, trying, size_stop}
use Rattle.vss_jobs.specs.declared.job.Search.{Search}
use Rattle.vss_jobs.specs.declared.refusal.Refusal.{Refusal}
use Rattle.vss_answers.specs.Answers.{question_of, SearchEnds, CheckEnds, checked_answer, found_answer, tried_answer, judged_answer, IsRightAnswer}
use Rattle.vss_answers.specs.Truth.{IsTrueAnswer}
use Rattle.vss_answers.specs.declared.answer.Answer.{Answer}
use Rattle.vss_answers.specs.declared.answer.Answer.TheVariants as answer

abbrev Said : Type 0
Said = Result Answer (Stop Refusal)

-- the laws of what tasks show
pub record TasksAreTrue : Type 0 where
  pub outcomes : (p : InstanceParts) → OutcomesAreTrue p
  pub refutations : (p : InstanceParts) → RefutationsAreTrue p

true_judged : (setting : Setting) (borders : List CandidateId) (plan : Plan) (v : Verdict) → IsTrueAnswer (judging setting borders plan) (Ok (judged_answer setting.labels borders v))
true_judged setting borders plan verdict.Lawful = tt
true_judged setting borders plan (verdict.Breach b) = tt

true_checked : TasksAreTrue → (setting : Setting) (r : Refutation) (line : ℕ) (end : Result LogVerdict EncodeRefusal) → CheckEnds setting r end
    → IsTrueAnswer (checking setting r line) (handed (checked_answer r line) size_stop end)
true_checked law setting r line (Ok log_verdict.Refutes) ends = law.refutations setting.parts ends.is_instance r ends.ends_so
true_checked law setting r line (Ok (log_verdict.Bad index fault)) ends = tt
true_checked law setting r line (Ok log_verdict.NoEmptyClause) ends = tt
true_checked law setting r line (Err why) ends = tt

true_found : TasksAreTrue → (setting : Setting) (asks : Search) (budget : ℕ) (end : Result Outcome EncodeRefusal) → SearchEnds setting (question_of setting.parts asks) budget end
    → IsTrueAnswer (searching setting asks budget) (handed (found_answer setting) size_stop end)
true_found law setting asks budget (Ok o) ends = law.outcomes setting.parts ends.is_instance (question_of setting.parts asks) budget o ends.ends_so
true_found law setting asks budget (Err why) ends = tt

true_tried : TasksAreTrue → (setting : Setting) (budget : ℕ) (end : Result Outcome EncodeRefusal) → SearchEnds setting of_fewest budget end
    → IsTrueAnswer (trying setting budget) (handed (tried_answer setting) size_stop end)
true_tried law setting budget (Ok o) ends = law.outcomes setting.parts ends.is_instance of_fewest budget o ends.ends_so
true_tried law setting budget (Err why) ends = tt

pub true_answer : TasksAreTrue → (job : Job) (r : Said) → IsRightAnswer job r → IsTrueAnswer job r
true_answer law (judging setting borders plan) r is =
    subst (λ (x : Said). IsTrueAnswer (judging setting borders plan) x) (sym is.told) (true_judged setting borders plan is.found)
true_answer law (checking setting refutation line) r is =
    subst (λ (x : Said). IsTrueAnswer (checking setting refutation line) x) (sym is.end_is) (true_checked law setting refutation line is.answer is.reads_so)
true_answer law (searching setting asks budget) r is =
    subst (λ (x : Said). IsTrueAnswer (searching setting asks budget) x) (sym is.end_is) (true_found law setting asks budget is.answer is.reads_so)
true_answer law (making network timetable) r is = subst (λ (x : Said). IsTrueAnswer (making network timetable) x) (sym is) tt
true_answer law (trying setting budget) r is =
    subst (λ (x : Said). IsTrueAnswer (trying setting budget) x) (sym is.end_is) (true_tried law setting budget is.answer is.reads_so)
