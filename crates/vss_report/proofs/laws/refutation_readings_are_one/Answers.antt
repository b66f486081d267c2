-- Why `refutation_readings_are_one` does what its contract says.
use Rattle.vss_report.proofs.OneRefutation.{one_refutation}
use Rattle.vss_report.proofs.laws.refutation_readings_are_one.Goals as goal

pub returns : goal.returns
returns c = λ bytes. one_refutation bytes
