-- What the loop of `follow_each_other` keeps from turn to turn.
use Rattle.std.specs.List.{AllAdjacentBelow}
use Rattle.cell_net.specs.Space.{Follows}
use Rattle.layout_rules.proofs.paths.follow_each_other.Given as goal

abbrev pub invariant-loop-place : goal.invariant-loop-place
invariant-loop-place l = AllAdjacentBelow (Follows l.inst) l.cells l.place
