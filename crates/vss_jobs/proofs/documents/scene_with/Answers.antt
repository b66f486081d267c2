-- The grid is asked where the timetable is accepted.
use Rattle.vss_stages.proofs.StageLaws.{then_ends, then_stops}
use Rattle.vss_jobs.proofs.documents.scene_with.Goals as goal

pub returns-in-Ok : goal.returns-in-Ok
returns-in-Ok c = then_ends _ _ _ c.in-Ok.timetable _ c.in-Ok.ensures.timetable c.cut.ensures

pub returns-in-Err : goal.returns-in-Err
returns-in-Err c = then_stops _ _ _ c.in-Err.ensures.timetable
