-- Why `fault_of` does what its contract says.
use Rattle.std.proofs.Common.{rules}
use Rattle.vss_lists.specs.Orders.{IsFirstBroken}
use Rattle.layout_rules.proofs.sweeps.fault_of.Goals as goal

pub returns-then-not-is_track_path : goal.returns-then-not-is_track_path
unfolding IsFirstBroken
returns-then-not-is_track_path c = (0, search rules)

pub returns-then-cells-train : goal.returns-then-cells-train
unfolding IsFirstBroken
returns-then-cells-train c = (1, search rules)

pub returns-then-not-is_slow_enough : goal.returns-then-not-is_slow_enough
unfolding IsFirstBroken
returns-then-not-is_slow_enough c = (2, search rules)
