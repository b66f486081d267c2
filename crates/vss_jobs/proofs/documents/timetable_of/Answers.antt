-- What is read of the timetable's bytes is handed on.
use Rattle.timetable.specs.Readings.{IsTimeReading}
use Rattle.timetable.specs.declared.parts.Timetable.{Timetable}
use Rattle.vss_stages.proofs.StageLaws.{hands_value, hands_refusal, stops_by}
use Rattle.vss_jobs.specs.Readings.{timetable_stop, ReadsTimetable}
use Rattle.vss_jobs.proofs.documents.timetable_of.Goals as goal

pub returns-in-Ok-clause-timetable : goal.returns-in-Ok-clause-timetable
returns-in-Ok-clause-timetable c = record {
  is_net = c.parts-parts.ensures.rules;
  hands_on = hands_value (IsTimeReading c.args.net.now c.args.bytes.now) (λ (t : Timetable). t) timetable_stop c.in-Ok.timetable c.in-Ok.ensures.reading;
}

pub returns-in-Err-clause-timetable : goal.returns-in-Err-clause-timetable
returns-in-Err-clause-timetable c =
    rw c.stop_of_timetable.ensures
    (stops_by (ReadsTimetable c.args.net.now c.args.bytes.now) (timetable_stop c.in-Err.why) (record {
      is_net = c.parts-parts.ensures.rules;
      hands_on = hands_refusal (IsTimeReading c.args.net.now c.args.bytes.now) (λ (t : Timetable). t) timetable_stop c.in-Err.why c.in-Err.ensures.reading;
    }))
