-- Why `layout_refusals_are_exclusive` does what its contract says.
use Rattle.cell_net.proofs.RefusalLaws.{one_layout_refusal, refuses_no_layout}
use Rattle.cell_net.proofs.laws.layout_refusals_are_exclusive.Goals as goal

pub returns : goal.returns
returns c = record { borders = refuses_no_layout; one = one_layout_refusal }
