-- What the loop of `add_joins_with` keeps from turn to turn.
use Rattle.std.proofs.Common.{take, map}
use Rattle.discretise.specs.Joins.{AddsJoins, pair_with}
use Rattle.discretise.proofs.joins.add_joins_with.Given as goal

abbrev pub invariant-loop-at : goal.invariant-loop-at
invariant-loop-at l = AddsJoins l.net (map (pair_with l.node l.end) (take l.at l.others)) l.initial.joins.items l.joins.items
