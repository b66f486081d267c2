-- The timetable's text is read where the network is accepted.
use Rattle.vss_stages.proofs.StageLaws.{then_ends, then_stops}
use Rattle.vss_jobs.proofs.documents.scene_of_texts.Goals as goal

pub returns-in-Ok : goal.returns-in-Ok
returns-in-Ok c = then_ends _ _ _ c.in-Ok.net _ c.in-Ok.ensures c.scene_with.ensures

pub returns-in-Err : goal.returns-in-Err
returns-in-Err c = then_stops _ _ _ c.in-Err.ensures
