-- Why `written_designs_are_read_back` does what its contract says.
use Rattle.vss_report.proofs.ReadBack.{design_read_back}
use Rattle.vss_report.proofs.laws.written_designs_are_read_back.Goals as goal

pub returns : goal.returns
returns c = λ labels o good short fit borders plan has. design_read_back labels o borders plan good short fit has
