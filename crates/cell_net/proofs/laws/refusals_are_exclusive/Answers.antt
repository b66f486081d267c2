-- Why `refusals_are_exclusive` does what its contract says.
use Rattle.cell_net.proofs.RefusalLaws.{one_refusal, refuses_no_instance}
use Rattle.cell_net.proofs.laws.refusals_are_exclusive.Goals as goal

pub returns : goal.returns
returns c = record { instance = refuses_no_instance; one = one_refusal }
