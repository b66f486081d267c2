-- What the loop of `add_cut_joins` keeps from turn to turn.
use Rattle.std.proofs.Common.{◌≡◌, ◌++◌, map}
use Rattle.std.specs.List.{range_with_len}
use Rattle.discretise.specs.Joins.{cut_join}
use Rattle.discretise.proofs.joins.add_cut_joins.Given as goal

abbrev pub invariant-loop-place : goal.invariant-loop-place
invariant-loop-place l = l.joins.items ≡ l.initial.joins.items ++ map (cut_join l.track) (range_with_len 0 l.place)
