-- The scene of both documents is searched.
use Rattle.std.proofs.Common.{refl}
use Rattle.vss_stages.specs.Stages.{goes_on}
use Rattle.vss_stages.proofs.StageLaws.{then_stops}
use Rattle.vss_jobs.specs.Settings.{setting_of}
use Rattle.vss_jobs.proofs.making.searching.Goals as goal

pub returns-in-Ok-clause-job : goal.returns-in-Ok-clause-job
returns-in-Ok-clause-job g c = goes_on (setting_of c.in-Ok.scene) c.in-Ok.ensures.scene refl

pub returns-in-Err-clause-job : goal.returns-in-Err-clause-job
returns-in-Err-clause-job g c = then_stops _ _ _ c.in-Err.ensures.scene
