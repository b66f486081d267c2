-- What the loop of `first_linked_to` keeps from turn to turn.
use Rattle.vss_lists.specs.Breaks.{HoldsBelow}
use Rattle.plan_checker.specs.ClashSearch.{IsSeparated}
use Rattle.plan_checker.proofs.pairs.first_linked_to.Given as goal

abbrev pub invariant-loop-directed : goal.invariant-loop-directed
invariant-loop-directed l = HoldsBelow (IsSeparated l.traffic l.cell) l.cells l.directed-index
