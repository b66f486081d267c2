-- What a call prints.
use Rattle.std.specs.Prelude.{ℕ, List, [], ◌∷◌, ◌++◌, codes, decimal, Result, Ok, Err}
use Rattle.vss_io.specs.Line.{flat, line}
use Rattle.vss_report.specs.Names.{train_name}
use Rattle.vss_answers.specs.PrintedNames.{cell_name, place_name}
use Rattle.vss_report.specs.Outcomes.{report_text}
use Rattle.vss_answers.specs.CheckTexts.{step_fault_word, proved_text, not_proved_text}
use Rattle.vss_answers.specs.RefusalTexts.{refusal_text}
use Rattle.case_texts.specs.Summaries.{summary_text}
use Rattle.vss_stages.specs.declared.input.Input.{Input}
use Rattle.vss_stages.specs.declared.input.Input.TheVariants.{Network, Timetable, Report}
use Rattle.vss_stages.specs.declared.stop.Stop.{Stop}
use Rattle.vss_stages.specs.declared.stop.Stop.TheVariants as stop
use Rattle.vss_jobs.specs.declared.refusal.Refusal.{Refusal}
use Rattle.vss_answers.specs.declared.answer.Answer.{Answer}
use Rattle.vss_answers.specs.declared.answer.Answer.TheVariants as answer
use Rattle.plan_checker.specs.declared.breach.Breach.{Breach}
use Rattle.plan_checker.specs.declared.breach.Breach.TheVariants as kind
use Rattle.cell_net.specs.declared.ids.CellId.{CellId}
use Rattle.cell_net.specs.declared.ids.TrainId.{TrainId}
use Rattle.cell_net.specs.declared.labels.Labels.{Labels}

-- the words that are taken
abbrev pub usage_text : List ℕ
usage_text = codes "usage: vssplan TASK NET TIMETABLE [REPORT] [--borders N] [--budget N]"

abbrev pub input_word : Input → List ℕ
input_word Network = codes "network"
input_word Timetable = codes "timetable"
input_word Report = codes "report"

-- a breach of one train's run: its kind, the train, and a step or the number of a stop
unfoldable pub train_text : Labels → List ℕ → TrainId → ℕ → List ℕ
train_text labels word train number = flat (codes "breach " ∷ word ∷ codes " " ∷ train_name labels train ∷ codes " " ∷ decimal number ∷ [])

-- two trains that aren't apart: the trains, the step, and a cell of each
unfoldable pub apart_text : Labels → TrainId → TrainId → ℕ → CellId → CellId → List ℕ
apart_text labels a b step e f = flat (
    codes "breach apart " ∷ train_name labels a ∷ codes " " ∷ train_name labels b ∷ codes " " ∷ decimal step
    ∷ codes " " ∷ cell_name labels e ∷ codes " " ∷ cell_name labels f ∷ [])

unfoldable pub breach_text : Labels → Breach → List ℕ
breach_text labels (kind.Border candidate) = codes "breach border " ++ place_name labels candidate
breach_text labels (kind.Entry train) = flat (codes "breach entry " ∷ train_name labels train ∷ [])
breach_text labels (kind.Path train step) = train_text labels (codes "path") train step
breach_text labels (kind.Length train step) = train_text labels (codes "length") train step
breach_text labels (kind.Speed train step) = train_text labels (codes "speed") train step
breach_text labels (kind.Join train step) = train_text labels (codes "join") train step
breach_text labels (kind.Late train step) = train_text labels (codes "late") train step
breach_text labels (kind.Stop train stop) = train_text labels (codes "stop") train stop
breach_text labels (kind.Apart a b step e f) = apart_text labels a b step e f

-- the text of an answer
unfoldable pub answer_text : Answer → List ℕ
answer_text (answer.Lawful borders) = line (flat (codes "lawful " ∷ decimal borders ∷ []))
answer_text (answer.Breach breach labels) = line (breach_text labels breach)
answer_text (answer.Proved bound) = proved_text bound
answer_text (answer.NotProved at fault) = not_proved_text at (step_fault_word fault)
answer_text (answer.NoEmptyClause at) = not_proved_text at (codes "NoEmptyClause")
answer_text (answer.Found outcome labels) = report_text labels outcome
answer_text (answer.Made network timetable) = network ++ timetable
answer_text (answer.Tried outcome inst) = summary_text inst outcome

-- the line of a stop; for want of memory nothing is said
unfoldable pub stop_text : Stop Refusal → List ℕ
stop_text stop.Usage = line (flat (usage_text ∷ []))
stop_text (stop.ReadFault input) = line (flat (codes "read fault " ∷ input_word input ∷ []))
stop_text (stop.TooLong input) = line (flat (codes "refused " ∷ input_word input ∷ codes " FileTooLong document 0" ∷ []))
stop_text (stop.Refused why) = refusal_text why
stop_text stop.Memory = []

-- the text of what a call has to say
abbrev pub said_text : Result Answer (Stop Refusal) → List ℕ
said_text (Ok said) = answer_text said
said_text (Err why) = stop_text why
