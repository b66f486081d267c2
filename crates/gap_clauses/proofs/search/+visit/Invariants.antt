-- What the loop of `+visit` keeps from turn to turn, and by what each call is smaller.
use Rattle.std.specs.Prelude.{◌≡◌, ◌-◌, ◌^◌, length, take}
use Rattle.gap_clauses.specs.Fans.{AreListed, IsDone, nodes_at, walk_at}
use Rattle.gap_clauses.proofs.search.+visit.Given as goal

abbrev pub decreases-visit : goal.decreases-visit
decreases-visit l = length l.search.now.inst.now.cells - length (walk_at l.fan.now.walks l.from)

abbrev pub invariant-loop-node : goal.invariant-loop-node
invariant-loop-node l = (l.fan.first ≡ l.fn.fan.first) × (l.fan.cells ≡ l.fn.fan.cells) × (take (length l.fn.fan.walks) l.fan.walks ≡ l.fn.fan.walks) × AreListed l.search.inst.now l.fn.fan.first (IsDone (nodes_at l.fn.fan.walks l.from) l.below) l.fan.walks

abbrev pub decreases-loop-node : goal.decreases-loop-node
decreases-loop-node l = 2 ^ 32 - l.below
