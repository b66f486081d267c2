-- To a job one answer is right, but for what a search finds.
use Rattle.std.proofs.Common.{◌≡◌, ◌≢◌, ℕ, List, Result, Ok, Err, refl, sym, ap, subst, ◌∙◌}
use Rattle.cell_net.specs.declared.ids.CandidateId.{CandidateId}
use Rattle.cell_net.specs.declared.parts.InstanceParts.{InstanceParts}
use Rattle.cell_net.specs.declared.plans.Plan.{Plan}
use Rattle.clause_encoder.specs.declared.task.EncodeRefusal.{EncodeRefusal}
use Rattle.clause_encoder.specs.declared.task.EncodeRefusal.TheVariants.{Memory}
use Rattle.derivation_log.specs.declared.step.Refutation.{Refutation}
use Rattle.plan_checker.specs.Laws.{HasOneFirstBreach}
use Rattle.plan_checker.specs.Verdicts.{IsPlanVerdict}
use Rattle.plan_checker.specs.declared.breach.Breach.{Breach}
use Rattle.plan_checker.specs.declared.judging.Verdict.{Verdict}
use Rattle.plan_checker.specs.declared.judging.Verdict.TheVariants as verdict
use Rattle.task_driver.specs.Questions.{Question, of_fewest}
use Rattle.task_driver.specs.TaskEnds.{SearchesEndAlike, ChecksAreOne}
use Rattle.vss_report.specs.declared.outcome.Outcome.{Outcome}
use Rattle.vss_stages.specs.Stages.{IsSettled, HandsOn, handed}
use Rattle.vss_stages.specs.declared.stop.Stop.{Stop}
use Rattle.vss_stages.specs.declared.stop.Stop.TheVariants as stop
use Rattle.vss_stages.proofs.StageLaws.{settled_answer, handed_alike}
use Rattle.vss_jobs.specs.Settings.{Setting}
use Rattle.vss_jobs.specs.Readings.{Job, judging, checking, searching, making, trying, size_stop}
use Rattle.vss_jobs.specs.declared.refusal.Refusal.{Refusal}
use Rattle.vss_answers.specs.Answers.{question_of, SearchEnds, CheckEnds, judged_answer, checked_answer, found_answer, tried_answer, IsJudged, IsRightAnswer}
use Rattle.vss_answers.specs.Laws.{AreToldAlike}
use Rattle.vss_answers.specs.declared.answer.Answer.{Answer}
use Rattle.vss_answers.specs.declared.answer.Answer.TheVariants as answer

abbrev Said : Type 0
Said = Result Answer (Stop Refusal)

-- what is the same is alike
same_alike : (r : Said) → AreToldAlike r r
same_alike (Ok (answer.Lawful borders)) = refl
same_alike (Ok (answer.Breach breach labels)) = refl
same_alike (Ok (answer.Proved bound)) = refl
same_alike (Ok (answer.NotProved at fault)) = refl
same_alike (Ok (answer.NoEmptyClause at)) = refl
same_alike (Ok (answer.Found outcome labels)) = tt
same_alike (Ok (answer.Made network timetable)) = refl
same_alike (Ok (answer.Tried outcome inst)) = tt
same_alike (Err why) = refl

alike_of : (r s : Said) → r ≡ s → AreToldAlike r s
alike_of r s same = subst (λ (x : Said). AreToldAlike r x) same (same_alike r)

-- a plan has one verdict
one_verdict : (p : InstanceParts) (borders : List CandidateId) (plan : Plan) → HasOneFirstBreach p borders plan → (v w : Verdict) → IsPlanVerdict p borders plan v → IsPlanVerdict p borders plan w → v ≡ w
one_verdict p borders plan law verdict.Lawful verdict.Lawful one other = refl
one_verdict p borders plan law verdict.Lawful (verdict.Breach b) one other = absurd (other.1 one)
one_verdict p borders plan law (verdict.Breach b) verdict.Lawful one other = absurd (one.1 other)
one_verdict p borders plan law (verdict.Breach b) (verdict.Breach c) one other = ap (λ (x : Breach). verdict.Breach x) (law b c one.0 other.0)

one_judged : (setting : Setting) (borders : List CandidateId) (plan : Plan) → HasOneFirstBreach setting.parts borders plan → (r s : Said) → IsJudged setting borders plan r → IsJudged setting borders plan s → r ≡ s
one_judged setting borders plan law r s one other =
    let tell : Verdict → Said = λ v. Ok (judged_answer setting.labels borders v) in
    one.told ∙ (ap tell (one_verdict setting.parts borders plan law one.found other.found one.is other.is) ∙ sym other.told)

one_checked : (setting : Setting) (refutation : Refutation) (line : ℕ) → ChecksAreOne setting.parts → (r s : Said) → IsSettled r → IsSettled s
    → HandsOn (CheckEnds setting refutation) (checked_answer refutation line) size_stop r → HandsOn (CheckEnds setting refutation) (checked_answer refutation line) size_stop s → r ≡ s
one_checked setting refutation line law =
    handed_alike (CheckEnds setting refutation) (checked_answer refutation line) size_stop Memory refl
    (λ r s one other is has. ap (handed (checked_answer refutation line) size_stop) (law refutation r s is.ends_so has.ends_so one other))

-- both outcomes of a search are alike, and both refusals
ends_alike : (made : Outcome → Answer) → ((o u : Outcome) → AreToldAlike (Ok (made o)) (Ok (made u))) → (setting : Setting) (question : Question) (budget : ℕ) → SearchesEndAlike setting.parts
    → (one other : Result Outcome EncodeRefusal) → one ≢ Err Memory → other ≢ Err Memory → SearchEnds setting question budget one → SearchEnds setting question budget other
    → AreToldAlike (handed made size_stop one) (handed made size_stop other)
ends_alike made alike setting question budget law (Ok o) (Ok u) m n is has = alike o u
ends_alike made alike setting question budget law (Err why) other m n is has =
    let same : other ≡ Err why = law question budget budget why other (λ e. m (ap (λ (w : EncodeRefusal). Err w) e)) n is.ends_so has.ends_so in
    alike_of _ _ (ap (handed made size_stop) (sym same))
ends_alike made alike setting question budget law (Ok o) (Err why) m n is has =
    let same : Ok o ≡ Err why = law question budget budget why (Ok o) (λ e. n (ap (λ (w : EncodeRefusal). Err w) e)) m has.ends_so is.ends_so in
    alike_of _ _ (ap (handed made size_stop) same)

one_search : (made : Outcome → Answer) → ((o u : Outcome) → AreToldAlike (Ok (made o)) (Ok (made u))) → (setting : Setting) (question : Question) (budget : ℕ) → SearchesEndAlike setting.parts
    → (r s : Said) → IsSettled r → IsSettled s → HandsOn (SearchEnds setting question budget) made size_stop r → HandsOn (SearchEnds setting question budget) made size_stop s → AreToldAlike r s
one_search made alike setting question budget law r s settled also is has =
    let ends = ends_alike made alike setting question budget law is.answer has.answer
    (settled_answer (SearchEnds setting question budget) made size_stop Memory r refl settled is)
    (settled_answer (SearchEnds setting question budget) made size_stop Memory s refl also has) is.reads_so has.reads_so in
    subst (λ (x : Said). AreToldAlike x s) (sym is.end_is) (subst (λ (y : Said). AreToldAlike (handed made size_stop is.answer) y) (sym has.end_is) ends)

-- the laws of what answers tell
pub record TasksAreOne : Type 0 where
  pub breaches : (p : InstanceParts) (borders : List CandidateId) (plan : Plan) → HasOneFirstBreach p borders plan
  pub checks : (p : InstanceParts) → ChecksAreOne p
  pub searches : (p : InstanceParts) → SearchesEndAlike p

pub one_answer : TasksAreOne → (job : Job) (r s : Said) → IsSettled r → IsSettled s → IsRightAnswer job r → IsRightAnswer job s → AreToldAlike r s
one_answer law (judging setting borders plan) r s settled also one other = alike_of r s (one_judged setting borders plan (law.breaches setting.parts borders plan) r s one other)
one_answer law (checking setting refutation line) r s settled also one other = alike_of r s (one_checked setting refutation line (law.checks setting.parts) r s settled also one other)
one_answer law (searching setting asks budget) r s settled also one other =
    one_search (found_answer setting) (λ o u. tt) setting (question_of setting.parts asks) budget (law.searches setting.parts) r s settled also one other
one_answer law (making network timetable) r s settled also one other = alike_of r s (one ∙ sym other)
one_answer law (trying setting budget) r s settled also one other =
    one_search (tried_answer setting) (λ o u. tt) setting of_fewest budget (law.searches setting.parts) r s settled also one other
