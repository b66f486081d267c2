-- What the loop of `next_node` keeps from turn to turn.
use Rattle.std.specs.Prelude.{◌-◌, All, slice_range, take}
use Rattle.gap_clauses.specs.Fans.{GoesOverNext, IsNotBelow}
use Rattle.gap_clauses.proofs.search.next_node.Given as goal

abbrev pub invariant-loop-place : goal.invariant-loop-place
invariant-loop-place l = IsNotBelow l.below l.next × All (GoesOverNext l.search.inst.now l.fan.first l.below l.next) (take (l.place - l.from) (slice_range l.fan.walks l.from l.end))
