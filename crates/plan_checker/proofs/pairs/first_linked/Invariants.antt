-- What the loop of `first_linked` keeps from turn to turn.
use Rattle.vss_lists.specs.Breaks.{HoldsBelow}
use Rattle.plan_checker.specs.ClashSearch.{IsSeparatedFromAll}
use Rattle.plan_checker.proofs.pairs.first_linked.Given as goal

abbrev pub invariant-loop-directed : goal.invariant-loop-directed
invariant-loop-directed l = HoldsBelow (IsSeparatedFromAll l.traffic l.other) l.one l.directed-index
