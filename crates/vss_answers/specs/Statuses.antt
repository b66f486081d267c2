-- The statuses of what a call has to say, and their numbers.
use Rattle.std.specs.Prelude.{ℕ, Result, Ok, Err}
use Rattle.vss_report.specs.declared.outcome.Outcome.{Outcome}
use Rattle.vss_report.specs.declared.outcome.Outcome.TheVariants as outcome
use Rattle.vss_stages.specs.declared.stop.Stop.{Stop}
use Rattle.vss_stages.specs.declared.stop.Stop.TheVariants as stop
use Rattle.vss_jobs.specs.declared.refusal.Refusal.{Refusal}
use Rattle.vss_answers.specs.declared.answer.Answer.{Answer}
use Rattle.vss_answers.specs.declared.answer.Answer.TheVariants as answer
use Rattle.vss_answers.specs.declared.status.Status.{Status}
use Rattle.vss_answers.specs.declared.status.Status.TheVariants as status

-- the status of how a search ended
abbrev pub outcome_status : Outcome → Status
outcome_status (outcome.Done design) = status.Done
outcome_status (outcome.Impossible refutation) = status.Impossible
outcome_status (outcome.Spent conflicts best) = status.Spent

abbrev pub answer_status : Answer → Status
answer_status (answer.Lawful borders) = status.Done
answer_status (answer.Breach breach labels) = status.Breach
answer_status (answer.Proved bound) = status.Done
answer_status (answer.NotProved at fault) = status.NotProved
answer_status (answer.NoEmptyClause at) = status.NotProved
answer_status (answer.Found found labels) = outcome_status found
answer_status (answer.Made network timetable) = status.Done
answer_status (answer.Tried found inst) = outcome_status found

-- the status of what is said
abbrev pub status_of : Result Answer (Stop Refusal) → Status
status_of (Ok said) = answer_status said
status_of (Err stop.Usage) = status.Words
status_of (Err (stop.ReadFault input)) = status.ReadFault
status_of (Err (stop.TooLong input)) = status.Refused
status_of (Err (stop.Refused why)) = status.Refused
status_of (Err stop.Memory) = status.Memory

-- the number of a status, with which the program ends
abbrev pub status_number : Status → ℕ
status_number status.Done = 0
status_number status.Impossible = 1
status_number status.Words = 2
status_number status.Refused = 3
status_number status.ReadFault = 4
status_number status.WriteFault = 5
status_number status.Spent = 6
status_number status.Memory = 7
status_number status.Breach = 8
status_number status.NotProved = 9
