-- Why `timetable_readings_are_one` does what its contract says.
use Rattle.timetable.proofs.ReadingLaws.{one_reading}
use Rattle.timetable.proofs.laws.timetable_readings_are_one.Goals as goal

pub returns : goal.returns
returns c = one_reading
