-- Reports that a search wrote, read again over the same documents.
use Rattle.std.specs.Prelude.{◌≡◌, ◌≤◌, ℕ, List, length, All, Some, Ok}
use Rattle.cell_net.specs.declared.ids.CandidateId.{CandidateId}
use Rattle.cell_net.specs.declared.plans.Plan.{Plan}
use Rattle.derivation_log.specs.Text.{IsInRange}
use Rattle.derivation_log.specs.declared.step.Refutation.{Refutation}
use Rattle.task_driver.specs.Questions.{Question}
use Rattle.vss_io.specs.Shown.{Files}
use Rattle.vss_report.specs.Outcomes.{report_text}
use Rattle.vss_report.specs.Written.{HasDesign, HasRefutation}
use Rattle.vss_report.specs.declared.outcome.Outcome.{Outcome}
use Rattle.vss_stages.specs.Stages.{Then}
use Rattle.vss_words.specs.Commands.{command}
use Rattle.vss_words.specs.declared.command.Command.TheVariants.{Judge, Check}
use Rattle.vss_words.specs.declared.command.DocumentNames.{DocumentNames}
use Rattle.vss_jobs.specs.Jobs.{IsJob, IsSettingOf}
use Rattle.vss_jobs.specs.Settings.{Setting}
use Rattle.vss_answers.specs.Answers.{IsRightAnswer, SearchEnds}
use Rattle.vss_answers.specs.declared.answer.Answer.TheVariants.{Lawful, Proved}

-- the shelf's file of that name is the report of how a search of the documents' scene ended; it isn't too long to be read, and the
-- numbers in its log have nine digits at most
pub record HoldsReport (files after : Files) (documents : DocumentNames) (report : List ℕ) (outcome : Outcome) : Type 0 where
  pub setting : Setting
  pub scene : IsSettingOf files after documents (Ok setting)
  pub question : Question
  pub budget : ℕ
  pub in_range : budget ≤ 1000000000
  pub ends : SearchEnds setting question budget (Ok outcome)
  pub holds : files.file report ≡ Some (report_text setting.labels outcome)
  pub short : length (report_text setting.labels outcome) ≤ 1073741824
  pub in_form : (r : Refutation) → HasRefutation outcome r → All IsInRange r.log.steps

-- words that ask to judge such a report with a design are right to be told that it is lawful
abbrev pub DesignsAreLawful : Type 0
DesignsAreLawful = (words : List (List ℕ)) (files after : Files) (documents : DocumentNames) (report : List ℕ) (outcome : Outcome) (borders : List CandidateId) (plan : Plan) →
    command words ≡ Some (Judge documents report) → HoldsReport files after documents report outcome → HasDesign outcome borders plan →
    Then (IsJob words files after) IsRightAnswer (Ok (Lawful (length borders)))

-- words that ask to check such a report with a refutation are right to be told that it is proved
abbrev pub RefutationsAreProved : Type 0
RefutationsAreProved = (words : List (List ℕ)) (files after : Files) (documents : DocumentNames) (report : List ℕ) (outcome : Outcome) (r : Refutation) →
    command words ≡ Some (Check documents report) → HoldsReport files after documents report outcome → HasRefutation outcome r →
    Then (IsJob words files after) IsRightAnswer (Ok (Proved r.bound))
