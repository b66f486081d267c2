-- What the loop of `add_ids` keeps from turn to turn.
use Rattle.std.proofs.Common.{◌≡◌, ◌+◌, ◌++◌, map}
use Rattle.std.specs.List.{range_with_len}
use Rattle.discretise.specs.Cells.{cell}
use Rattle.discretise.proofs.stations.add_ids.Given as goal

abbrev pub invariant-loop-place : goal.invariant-loop-place
invariant-loop-place l = l.cells.items ≡ l.initial.cells.items ++ map (λ place. cell (l.track.first + place)) (range_with_len 0 l.place)
