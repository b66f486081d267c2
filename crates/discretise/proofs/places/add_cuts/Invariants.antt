-- What the loop of `add_cuts` keeps from turn to turn.
use Rattle.std.proofs.Common.{◌≡◌, ◌+◌, ◌++◌, map}
use Rattle.std.specs.List.{range_with_len}
use Rattle.discretise.specs.Cells.{node}
use Rattle.discretise.proofs.places.add_cuts.Given as goal

abbrev pub invariant-loop-cut : goal.invariant-loop-cut
invariant-loop-cut l = l.nodes.items ≡ l.initial.nodes.items ++ map (λ place. node (l.track.cut + place)) (range_with_len 0 l.cut)
