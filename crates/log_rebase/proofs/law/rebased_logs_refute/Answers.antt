-- Why `rebased_logs_refute` does what its contract says.
use Rattle.log_rebase.proofs.Refuting.{rebased_refutes}
use Rattle.log_rebase.proofs.law.rebased_logs_refute.Goals as goal

pub returns : goal.returns
returns c = rebased_refutes
