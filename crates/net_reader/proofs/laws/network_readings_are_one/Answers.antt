-- Why `network_readings_are_one` does what its contract says.
use Rattle.net_reader.proofs.ReadingLaws.{one_reading}
use Rattle.net_reader.proofs.laws.network_readings_are_one.Goals as goal

pub returns : goal.returns
returns c = one_reading
