-- Why `net_refusals_are_one` does what its contract says.
use Rattle.rail_net.proofs.RefusalLaws.{broken_is_no_net, one_broken_rule}
use Rattle.rail_net.proofs.laws.net_refusals_are_one.Goals as goal

pub returns : goal.returns
returns c = record { one = one_broken_rule; none = broken_is_no_net }
