-- The report's file is read after both documents are accepted.
use Rattle.vss_stages.specs.declared.input.Input.TheVariants.{Report}
use Rattle.vss_stages.proofs.StageLaws.{then_stops}
use Rattle.vss_stages.proofs.InputLaws.{file_made, file_unread, kept_since}
use Rattle.vss_jobs.specs.Settings.{setting_of}
use Rattle.vss_jobs.specs.Jobs.{IsSettingOf}
use Rattle.vss_jobs.proofs.KeptFiles.{keeps_three}
use Rattle.vss_jobs.proofs.Stages.{scene_lasts}
use Rattle.vss_jobs.proofs.reports.checking.Goals as goal

pub returns-in-Ok-read_input-clause-job : goal.returns-in-Ok-read_input-clause-job
returns-in-Ok-read_input-clause-job g c =
    file_made (λ from to. IsSettingOf from to c.args.names.now) _ _ _ Report _ _ _ (setting_of c.in-Ok.scene) c.in-Ok-read_input.bytes.items _ (scene_lasts c.args.names.now)
    (kept_since _ _ _ c.in-Ok.ensures.kept) (kept_since _ _ _ c.in-Ok-read_input.ensures.kept) c.in-Ok.ensures.scene c.in-Ok-read_input.ensures.read
    (rw c.as_slice.ensures.value at c.refutation_of.ensures.job)

pub returns-in-Err-read_input-clause-job : goal.returns-in-Err-read_input-clause-job
returns-in-Err-read_input-clause-job g c =
    file_unread (λ from to. IsSettingOf from to c.args.names.now) _ _ _ Report _ _ (setting_of c.in-Ok.scene) _ (scene_lasts c.args.names.now)
    (kept_since _ _ _ c.in-Ok.ensures.kept) (kept_since _ _ _ c.in-Err-read_input.ensures.kept) c.in-Ok.ensures.scene c.in-Err-read_input.ensures.read

pub returns-in-Err-clause-job : goal.returns-in-Err-clause-job
returns-in-Err-clause-job g c = then_stops _ _ _ c.in-Err.ensures.scene

pub returns-in-Ok-read_input-clause-kept : goal.returns-in-Ok-read_input-clause-kept
returns-in-Ok-read_input-clause-kept g c =
    keeps_three _ _ _ c.args.names.now.network c.args.names.now.timetable c.args.report.now c.in-Ok.ensures.kept c.in-Ok-read_input.ensures.kept

pub returns-in-Err-read_input-clause-kept : goal.returns-in-Err-read_input-clause-kept
returns-in-Err-read_input-clause-kept g c =
    keeps_three _ _ _ c.args.names.now.network c.args.names.now.timetable c.args.report.now c.in-Ok.ensures.kept c.in-Err-read_input.ensures.kept
