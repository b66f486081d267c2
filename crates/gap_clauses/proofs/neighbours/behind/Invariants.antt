-- What the loop of `behind` keeps from turn to turn.
use Rattle.gap_clauses.specs.Fans.{AreBehindBelow}
use Rattle.gap_clauses.proofs.neighbours.behind.Given as goal

abbrev pub invariant-loop-number : goal.invariant-loop-number
invariant-loop-number l = AreBehindBelow l.inst l.cell l.node l.number l.found.items
