-- Why `design_readings_are_one` does what its contract says.
use Rattle.vss_report.proofs.OneDesign.{one_reading}
use Rattle.vss_report.proofs.laws.design_readings_are_one.Goals as goal

pub returns : goal.returns
returns c = λ labels bytes good. one_reading labels bytes good
