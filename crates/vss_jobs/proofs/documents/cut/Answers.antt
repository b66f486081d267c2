-- The scene, or what the grid refuses, is handed on.
use Rattle.discretise.specs.Scenes.{IsSceneOf as IsCut}
use Rattle.vss_stages.proofs.StageLaws.{hands_value, hands_refusal, stops_by}
use Rattle.vss_jobs.specs.Settings.{setting_of}
use Rattle.vss_jobs.specs.Readings.{grid_stop, CutsScene}
use Rattle.vss_jobs.proofs.documents.cut.Goals as goal

pub returns-in-Ok : goal.returns-in-Ok
returns-in-Ok c = record {
  is_net = c.parts-parts.ensures.rules;
  is_timetable = c.requires;
  hands_on = hands_value (IsCut c.args.net.now c.args.timetable.now) setting_of grid_stop c.in-Ok.scene c.in-Ok.ensures;
}

pub returns-in-Err : goal.returns-in-Err
returns-in-Err c =
    rw c.stop_of_grid.ensures
    (stops_by (CutsScene c.args.net.now c.args.timetable.now) (grid_stop c.in-Err.why) (record {
      is_net = c.parts-parts.ensures.rules;
      is_timetable = c.requires;
      hands_on = hands_refusal (IsCut c.args.net.now c.args.timetable.now) setting_of grid_stop c.in-Err.why c.in-Err.ensures;
    }))
