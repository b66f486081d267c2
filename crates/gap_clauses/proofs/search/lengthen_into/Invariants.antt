-- What the loop of `lengthen_into` keeps from turn to turn.
use Rattle.std.specs.Prelude.{◌≡◌, ◌++◌, take}
use Rattle.std.specs.List.{flat_map}
use Rattle.gap_clauses.specs.Fans.{longer, walk_at}
use Rattle.gap_clauses.proofs.search.lengthen_into.Given as goal

abbrev pub invariant-loop-at : goal.invariant-loop-at
invariant-loop-at l = (l.fan.first ≡ l.fn.fan.first) × (l.fan.cells ≡ l.fn.fan.cells) × (l.fan.walks ≡ l.fn.fan.walks ++ flat_map (longer l.fn.fan.first l.node (walk_at l.fn.fan.walks l.place)) (take l.at l.cells))
