-- The scene of the made texts is tried.
use Rattle.std.proofs.Common.{refl}
use Rattle.vss_stages.specs.Stages.{goes_on}
use Rattle.vss_stages.proofs.StageLaws.{then_stops}
use Rattle.vss_jobs.specs.Settings.{setting_of}
use Rattle.vss_jobs.proofs.cases.trying_case.Goals as goal

pub returns-in-Ok-scene_of_texts-clause-job : goal.returns-in-Ok-scene_of_texts-clause-job
returns-in-Ok-scene_of_texts-clause-job c =
    goes_on (setting_of c.in-Ok-scene_of_texts.scene)
    (rw (c.as_slice.ensures.value, c.as_slice-2.ensures.value, c.in-Ok.ensures.network, c.in-Ok.ensures.timetable) at c.in-Ok-scene_of_texts.ensures) refl

pub returns-clause-job : goal.returns-clause-job
returns-clause-job c =
    then_stops _ _ _ (rw (c.as_slice.ensures.value, c.as_slice-2.ensures.value, c.in-Ok.ensures.network, c.in-Ok.ensures.timetable) at c.in-Err-scene_of_texts.ensures)
