-- How a call ends, by what it says.
use Rattle.std.proofs.Common.{◌≡◌, ◌≢◌, ℕ, List, Result, Ok, Err, IsTrue, Bool, false, refl, sym, ap, subst}
use Rattle.vss_io.specs.Shown.{Files, Output}
use Rattle.vss_io.specs.Written.{followed_by}
use Rattle.vss_stages.specs.Stages.{goes_on, stops, Ends as EndsStage, IsSettled}
use Rattle.vss_stages.specs.declared.stop.Stop.{Stop}
use Rattle.vss_stages.specs.declared.stop.Stop.TheVariants as stop
use Rattle.vss_stages.proofs.StageLaws.{then_maps}
use Rattle.vss_words.specs.Commands.{NamesTask}
use Rattle.vss_jobs.proofs.AskedNames.{names_task}
use Rattle.vss_jobs.specs.Jobs.{IsJob}
use Rattle.vss_jobs.specs.Laws.{JobsAreOne}
use Rattle.vss_jobs.specs.Readings.{Job}
use Rattle.vss_jobs.specs.declared.refusal.Refusal.{Refusal}
use Rattle.vss_answers.specs.Answers.{IsRightAnswer}
use Rattle.vss_answers.specs.Laws.{AreToldAlike, AnswersAreOne, AnswersAreTrue}
use Rattle.vss_answers.specs.Statuses.{status_of}
use Rattle.vss_answers.specs.Truth.{IsTrueAnswer}
use Rattle.vss_answers.specs.Texts.{said_text}
use Rattle.vss_answers.specs.declared.answer.Answer.{Answer}
use Rattle.vss_answers.specs.declared.answer.Answer.TheVariants as answer
use Rattle.vss_report.specs.declared.outcome.Outcome.TheVariants as outcome
use Rattle.vss_answers.specs.declared.status.Status.{Status}
use Rattle.vss_answers.specs.declared.status.Status.TheVariants as status
use Rattle.vss_run.specs.Call.{IsRight, IsTruth, IsSaid, Says, CallEnds, SaysAlike, IsEndedWith, AreDecisive}

pub not_true : (b : Bool) → b ≡ false → ¬ IsTrue b
not_true b is holds = cc

-- what ends the call, and isn't want of memory, is right
pub right_of : (words : List (List ℕ)) (files after : Files) (said : Result Answer (Stop Refusal)) → EndsStage (IsRight words files after) (λ (a : Answer). a) said → said ≢ Err stop.Memory → IsRight words files after said
right_of words files after (Ok said) ends other = ends
right_of words files after (Err stop.Memory) ends other = absurd (other refl)
right_of words files after (Err stop.Usage) ends other = ends
right_of words files after (Err (stop.ReadFault input)) ends other = ends
right_of words files after (Err (stop.TooLong input)) ends other = ends
right_of words files after (Err (stop.Refused why)) ends other = ends

-- what is right is true
pub truth_of : AnswersAreTrue → (words : List (List ℕ)) (files after : Files) (said : Result Answer (Stop Refusal)) → IsRight words files after said → IsTruth words files after said
truth_of law words files after said right = then_maps (IsJob words files after) (IsJob words files after) IsRightAnswer IsTrueAnswer (λ r is. is) law said right

-- what is said is a status of its own, by which the call ends so
says_ends : (words : List (List ℕ)) (files after : Files) (before now : Output) (said : Result Answer (Stop Refusal)) → said ≢ Err stop.Memory
    → Says words files after before now (status_of said) → CallEnds words files after before now (status_of said)
says_ends words files after before now (Ok (answer.Lawful n)) other says = says
says_ends words files after before now (Ok (answer.Breach b l)) other says = says
says_ends words files after before now (Ok (answer.Proved b)) other says = says
says_ends words files after before now (Ok (answer.NotProved n f)) other says = says
says_ends words files after before now (Ok (answer.NoEmptyClause n)) other says = says
says_ends words files after before now (Ok (answer.Found (outcome.Done d) l)) other says = says
says_ends words files after before now (Ok (answer.Found (outcome.Impossible r) l)) other says = says
says_ends words files after before now (Ok (answer.Found (outcome.Spent n b) l)) other says = says
says_ends words files after before now (Ok (answer.Made n t)) other says = says
says_ends words files after before now (Ok (answer.Tried (outcome.Done d) i)) other says = says
says_ends words files after before now (Ok (answer.Tried (outcome.Impossible r) i)) other says = says
says_ends words files after before now (Ok (answer.Tried (outcome.Spent n b) i)) other says = says
says_ends words files after before now (Err stop.Memory) other says = absurd (other refl)
says_ends words files after before now (Err stop.Usage) other says = says
says_ends words files after before now (Err (stop.ReadFault input)) other says = says
says_ends words files after before now (Err (stop.TooLong input)) other says = says
says_ends words files after before now (Err (stop.Refused why)) other says = says

pub said_ends : AnswersAreTrue → (words : List (List ℕ)) (files after : Files) (before now : Output) (ended : Status) (said : Result Answer (Stop Refusal)) → said ≢ Err stop.Memory
    → IsRight words files after said → now.written ≡ followed_by before.written (said_text said) → ended ≡ status_of said → CallEnds words files after before now ended
said_ends law words files after before now ended said other right printed is =
    subst (λ (s : Status). CallEnds words files after before now s) (sym is)
    (says_ends words files after before now said other (record { said = said; right = right; truth = truth_of law words files after said right; is_said = record { printed = printed; status_is = refl } }))

ended_with : (said : Result Answer (Stop Refusal)) (before now : Output) (ended : Status) → SaysAlike said before now ended → IsEndedWith said before now ended
ended_with said before now status.Done is = is
ended_with said before now status.Impossible is = is
ended_with said before now status.Words is = is
ended_with said before now status.Refused is = is
ended_with said before now status.ReadFault is = tt
ended_with said before now status.WriteFault is = tt
ended_with said before now status.Spent is = is
ended_with said before now status.Memory is = tt
ended_with said before now status.Breach is = is
ended_with said before now status.NotProved is = is

abbrev job_ok : Job → Result Job (Stop Refusal)
job_ok job = Ok job

abbrev job_err : Stop Refusal → Result Job (Stop Refusal)
job_err why = Err why

same_job : (a b : Job) → job_ok a ≡ job_ok b → a ≡ b
same_job a b e = cc

not_stopped : (a : Job) (why : Stop Refusal) → job_ok a ≡ job_err why → ⊥
not_stopped a why e = cc

abbrev answer_err : Stop Refusal → Result Answer (Stop Refusal)
answer_err why = Err why

settled_job : (why : Stop Refusal) → IsSettled (answer_err why) → IsSettled (job_err why)
settled_job stop.Memory is = absurd is
settled_job (stop.ReadFault input) is = absurd is
settled_job (stop.TooLong input) is = tt
settled_job (stop.Refused why) is = tt
settled_job stop.Usage is = tt

settled_stop : (end : Result Answer (Stop Refusal)) (why : Stop Refusal) → end ≡ Err why → IsSettled end → IsSettled (job_err why)
settled_stop end why same settled = settled_job why (subst (λ (z : Result Answer (Stop Refusal)). IsSettled z) same settled)

same_stop : (a b : Stop Refusal) → job_err a ≡ job_err b → a ≡ b
same_stop a b e = cc

stops_alike : (why since : Stop Refusal) → why ≡ since → (r s : Result Answer (Stop Refusal)) → r ≡ Err why → s ≡ Err since → AreToldAlike r s
stops_alike why since same r s is has =
    subst (λ (x : Result Answer (Stop Refusal)). AreToldAlike x s) (sym is)
    (subst (λ (y : Result Answer (Stop Refusal)). AreToldAlike (Err why) y) (sym has) (ap answer_err same))

-- a job is made only where the first word names a task
pub named_by_job : (words : List (List ℕ)) (files after : Files) (job : Job) → IsJob words files after (Ok job) → NamesTask words
named_by_job words files after job (goes_on asked is ends) = names_task words asked is
named_by_job words files after job (stops why is same) = absurd (not_stopped job why same)

-- any two that are right to say are alike
right_alike : JobsAreOne → AnswersAreOne → (words : List (List ℕ)) (files after : Files) → IsTrue files.tells → (r s : Result Answer (Stop Refusal)) → IsSettled r → IsSettled s
    → IsRight words files after r → IsRight words files after s → AreToldAlike r s
right_alike jobs answers words files after tells r s settled also (goes_on x is ends) (goes_on y has end) =
    let one = jobs words files after files after (record { tells = tells; also = tells; same_files = λ name. refl }) in
    answers y r s settled also (subst (λ (z : Job). IsRightAnswer z r) (same_job x y (one (Ok x) (Ok y) tt tt is has)) ends) end
right_alike jobs answers words files after tells r s settled also (goes_on x is ends) (stops why has same) =
    let one = jobs words files after files after (record { tells = tells; also = tells; same_files = λ name. refl }) in
    absurd (not_stopped x why (one (Ok x) (Err why) tt (settled_stop s why same also) is has))
right_alike jobs answers words files after tells r s settled also (stops why is same) (goes_on y has end) =
    let one = jobs words files after files after (record { tells = tells; also = tells; same_files = λ name. refl }) in
    absurd (not_stopped y why (sym (one (Err why) (Ok y) (settled_stop r why same settled) tt is has)))
right_alike jobs answers words files after tells r s settled also (stops why is same) (stops since has equal) =
    let one = jobs words files after files after (record { tells = tells; also = tells; same_files = λ name. refl }) in
    stops_alike why since (same_stop why since (one (Err why) (Err since) (settled_stop r why same settled) (settled_stop s since equal also) is has)) r s same equal

decides_settled : JobsAreOne → AnswersAreOne → (words : List (List ℕ)) (files after : Files) (before now : Output) (own : Result Answer (Stop Refusal)) → IsSettled own
    → IsRight words files after own → IsSaid own before now (status_of own) → AreDecisive words files after before now (status_of own)
decides_settled jobs answers words files after before now own settled right is = λ tells said also has.
    ended_with said before now (status_of own) (record { own = own; alike = right_alike jobs answers words files after tells said own also settled has right; is_said = is })

-- whatever else is right, the call said it or alike
decides : JobsAreOne → AnswersAreOne → (words : List (List ℕ)) (files after : Files) (before now : Output) (own : Result Answer (Stop Refusal)) → own ≢ Err stop.Memory
    → IsRight words files after own → IsSaid own before now (status_of own) → AreDecisive words files after before now (status_of own)
decides jobs answers words files after before now (Err (stop.ReadFault input)) other right is = λ tells said settled also. tt
decides jobs answers words files after before now (Err stop.Memory) other right is = absurd (other refl)
decides jobs answers words files after before now (Ok a) other right is = decides_settled jobs answers words files after before now (Ok a) tt right is
decides jobs answers words files after before now (Err stop.Usage) other right is = decides_settled jobs answers words files after before now (Err stop.Usage) tt right is
decides jobs answers words files after before now (Err (stop.TooLong input)) other right is = decides_settled jobs answers words files after before now (Err (stop.TooLong input)) tt right is
decides jobs answers words files after before now (Err (stop.Refused why)) other right is = decides_settled jobs answers words files after before now (Err (stop.Refused why)) tt right is

pub said_decides : JobsAreOne → AnswersAreOne → (words : List (List ℕ)) (files after : Files) (before now : Output) (ended : Status) (own : Result Answer (Stop Refusal)) → own ≢ Err stop.Memory
    → IsRight words files after own → now.written ≡ followed_by before.written (said_text own) → ended ≡ status_of own → AreDecisive words files after before now ended
said_decides jobs answers words files after before now ended own other right printed is =
    subst (λ (s : Status). AreDecisive words files after before now s) (sym is)
    (decides jobs answers words files after before now own other right (record { printed = printed; status_is = refl }))
