-- Why `written_refutations_are_read_back` does what its contract says.
use Rattle.vss_report.proofs.ReadBackLog.{refutation_read_back}
use Rattle.vss_report.proofs.laws.written_refutations_are_read_back.Goals as goal

pub returns : goal.returns
returns c = λ labels o good short fit r has. refutation_read_back labels o r good short fit has
