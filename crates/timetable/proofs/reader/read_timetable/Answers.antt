-- Why `read_timetable` does what its contract says.
use Rattle.std.proofs.Common.{refl}
use Rattle.vss_json.proofs.DocumentLaws.{some_stated}
use Rattle.timetable.specs.Document.{timetable_document}
use Rattle.timetable.proofs.TimetableLemmas.{timetable_kept}
use Rattle.timetable.proofs.reader.read_timetable.Goals as goal

pub returns-in-Ok-test_rules-clause-timetable : goal.returns-in-Ok-test_rules-clause-timetable
returns-in-Ok-test_rules-clause-timetable c =
    timetable_kept c.args.net.now c.in-Ok.entries _ c.parts-parts.ensures.rules c.in-Ok.ensures.keeps c.in-Ok-test_rules.ensures.kept
    (record { space_step_m = refl; time_step_s = refl; horizon_s = refl; trains = c.in-Ok-test_rules.ensures.trains })

pub returns-clause-reading : goal.returns-clause-reading
returns-clause-reading c = some_stated timetable_document c.args.bytes.now c.in-Ok.entries c.in-Ok.ensures.read
