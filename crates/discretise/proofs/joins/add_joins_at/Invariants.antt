-- What the loop of `add_joins_at` keeps from turn to turn.
use Rattle.std.proofs.Common.{List, drop}
use Rattle.cell_net.specs.declared.cells.JoinSpec.{JoinSpec}
use Rattle.discretise.specs.Joins.{AddsJoins, pairs_of}
use Rattle.discretise.proofs.joins.add_joins_at.Given as goal

-- what adds the joins of the pairs that are left adds all
abbrev pub invariant-loop-at : goal.invariant-loop-at
invariant-loop-at l = (new : List JoinSpec) → AddsJoins l.net (pairs_of l.node (drop l.at l.ends)) l.joins.items new
    → AddsJoins l.net (pairs_of l.node l.ends) l.initial.joins.items new
