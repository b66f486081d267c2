-- Why `Layout::new` does what its contract says.
use Rattle.std.proofs.Common.{rules}
use Rattle.vss_lists.specs.Orders.{IsFirstBroken}
use Rattle.cell_net.proofs.layout.Layout.new.Goals as goal

pub returns-in-Some-clause-refusal : goal.returns-in-Some-clause-refusal
unfolding IsFirstBroken
returns-in-Some-clause-refusal c = (0, search rules)

pub returns-in-Some-first_out_of_range-clause-refusal : goal.returns-in-Some-first_out_of_range-clause-refusal
unfolding IsFirstBroken
returns-in-Some-first_out_of_range-clause-refusal c = (1, search rules)
