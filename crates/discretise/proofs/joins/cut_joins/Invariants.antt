-- What the loop of `cut_joins` keeps from turn to turn.
use Rattle.std.proofs.Common.{◌≡◌, take}
use Rattle.discretise.specs.Joins.{cut_joins}
use Rattle.discretise.proofs.joins.cut_joins.Given as goal

abbrev pub invariant-loop-at : goal.invariant-loop-at
invariant-loop-at l = l.joins.items ≡ cut_joins (take l.at l.tracks)
