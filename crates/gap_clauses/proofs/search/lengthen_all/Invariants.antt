-- What the loop of `lengthen_all` keeps from turn to turn.
use Rattle.std.specs.Prelude.{◌≡◌, ◌-◌, ◌++◌, slice_range, take}
use Rattle.gap_clauses.specs.Fans.{all_over}
use Rattle.gap_clauses.proofs.search.lengthen_all.Given as goal

abbrev pub invariant-loop-place : goal.invariant-loop-place
invariant-loop-place l = (l.fan.first ≡ l.fn.fan.first) × (l.fan.cells ≡ l.fn.fan.cells) × (l.fan.walks ≡ l.fn.fan.walks ++ all_over l.search.inst.now l.search.neighbours.now l.fn.fan.first l.node (take (l.place - l.from) (slice_range l.fn.fan.walks l.from l.end)))
