-- What a call of the program says, and how it ends.
use Rattle.std.specs.Prelude.{◌≡◌, ℕ, List, length, Some, Result, Ok, IsTrue}
use Rattle.cell_net.specs.declared.ids.CandidateId.{CandidateId}
use Rattle.cell_net.specs.declared.plans.Plan.{Plan}
use Rattle.derivation_log.specs.declared.step.Refutation.{Refutation}
use Rattle.vss_io.specs.Shown.{Files, Output}
use Rattle.vss_io.specs.Written.{followed_by, PutsFront}
use Rattle.vss_stages.specs.Stages.{Then, IsSettled}
use Rattle.vss_stages.specs.declared.stop.Stop.{Stop}
use Rattle.vss_report.specs.Written.{HasDesign, HasRefutation}
use Rattle.vss_report.specs.declared.outcome.Outcome.{Outcome}
use Rattle.vss_words.specs.Commands.{command, NamesTask}
use Rattle.vss_words.specs.declared.command.Command.TheVariants.{Judge, Check}
use Rattle.vss_words.specs.declared.command.DocumentNames.{DocumentNames}
use Rattle.vss_jobs.specs.Jobs.{IsJob}
use Rattle.vss_jobs.specs.declared.refusal.Refusal.{Refusal}
use Rattle.vss_answers.specs.Answers.{IsRightAnswer}
use Rattle.vss_answers.specs.Laws.{AreToldAlike}
use Rattle.vss_answers.specs.Statuses.{status_of}
use Rattle.vss_answers.specs.Texts.{said_text}
use Rattle.vss_answers.specs.Truth.{IsTrueAnswer}
use Rattle.vss_answers.specs.declared.answer.Answer.{Answer}
use Rattle.vss_answers.specs.declared.answer.Answer.TheVariants.{Lawful, Proved}
use Rattle.vss_answers.specs.declared.status.Status.{Status}
use Rattle.vss_answers.specs.declared.status.Status.TheVariants as status
use Rattle.written_reports.specs.WrittenReports.{HoldsReport}

-- what is right to say: words and files make a job, and this answers it; or they make none, and this is why
abbrev pub IsRight : List (List ℕ) → Files → Files → Result Answer (Stop Refusal) → Type 0
IsRight words before after = Then (IsJob words before after) IsRightAnswer

-- what is true: the same, by the rules of layouts and plans alone
abbrev pub IsTruth : List (List ℕ) → Files → Files → Result Answer (Stop Refusal) → Type 0
IsTruth words before after = Then (IsJob words before after) IsTrueAnswer

-- it was printed whole, and this is its status
pub record IsSaid (said : Result Answer (Stop Refusal)) (before now : Output) (ended : Status) : Type 0 where
  pub printed : now.written ≡ followed_by before.written (said_text said)
  pub status_is : ended ≡ status_of said

-- what is right was said, and it is true
pub record Says (words : List (List ℕ)) (files after : Files) (before now : Output) (ended : Status) : Type 0 where
  pub said : Result Answer (Stop Refusal)
  pub right : IsRight words files after said
  pub truth : IsTruth words files after said
  pub is_said : IsSaid said before now ended

-- of what is right only a front was printed
pub record BreaksOff (words : List (List ℕ)) (files after : Files) (before now : Output) : Type 0 where
  pub said : Result Answer (Stop Refusal)
  pub right : IsRight words files after said
  pub front : PutsFront before.written now.written (said_text said)

-- for want of memory nothing was printed; it comes only where the first word names a task
pub record LacksMemory (words : List (List ℕ)) (before now : Output) : Type 0 where
  pub named : NamesTask words
  pub nothing : now ≡ before

-- how a call ends: for want of memory with nothing printed, in a fault of writing with a front of what is right
-- printed, and else with what is right
abbrev pub CallEnds : List (List ℕ) → Files → Files → Output → Output → Status → Type 0
CallEnds words files after before now status.Memory = LacksMemory words before now
CallEnds words files after before now status.WriteFault = BreaksOff words files after before now
CallEnds words files after before now ended = Says words files after before now ended

-- the call said this, or, where it tells how a search ended, how its own ended
pub record SaysAlike (said : Result Answer (Stop Refusal)) (before now : Output) (ended : Status) : Type 0 where
  pub own : Result Answer (Stop Refusal)
  pub alike : AreToldAlike said own
  pub is_said : IsSaid own before now ended

-- the call said this or alike, or a fault or want of memory came in its place
abbrev pub IsEndedWith : Result Answer (Stop Refusal) → Output → Output → Status → Type 0
IsEndedWith said before now status.ReadFault = Unit {0}
IsEndedWith said before now status.WriteFault = Unit {0}
IsEndedWith said before now status.Memory = Unit {0}
IsEndedWith said before now ended = SaysAlike said before now ended

-- where a shelf tells its files, words and files decide: whatever is right to say, but for a fault of reading, the call
-- said it, but for faults and want of memory; of the ends of one search, which may be many, it said one
abbrev pub AreDecisive : List (List ℕ) → Files → Files → Output → Output → Status → Type 0
AreDecisive words files after before now ended =
    IsTrue files.tells → (said : Result Answer (Stop Refusal)) → IsSettled said → IsRight words files after said → IsEndedWith said before now ended

-- words that ask to judge the report of how a search of the same documents ended, where it has a design, are told that it is lawful
abbrev pub JudgesWritten : List (List ℕ) → Files → Files → Output → Output → Status → Type 0
JudgesWritten words files after before now ended =
    (documents : DocumentNames) (report : List ℕ) (outcome : Outcome) (borders : List CandidateId) (plan : Plan) → command words ≡ Some (Judge documents report) →
    HoldsReport files after documents report outcome → HasDesign outcome borders plan → IsEndedWith (Ok (Lawful (length borders))) before now ended

-- words that ask to check such a report, where it has a refutation, are told that it is proved
abbrev pub ChecksWritten : List (List ℕ) → Files → Files → Output → Output → Status → Type 0
ChecksWritten words files after before now ended =
    (documents : DocumentNames) (report : List ℕ) (outcome : Outcome) (r : Refutation) → command words ≡ Some (Check documents report) →
    HoldsReport files after documents report outcome → HasRefutation outcome r → IsEndedWith (Ok (Proved r.bound)) before now ended

-- where a shelf tells its files, written reports are read back
abbrev pub ReadsBack : List (List ℕ) → Files → Files → Output → Output → Status → Type 0
ReadsBack words files after before now ended =
    IsTrue files.tells → JudgesWritten words files after before now ended × ChecksWritten words files after before now ended
