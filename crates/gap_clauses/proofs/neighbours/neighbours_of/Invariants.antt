-- What the loop of `neighbours_of` keeps from turn to turn.
use Rattle.gap_clauses.specs.Fans.{AreRowsBelow}
use Rattle.gap_clauses.proofs.neighbours.neighbours_of.Given as goal

abbrev pub invariant-loop-cell : goal.invariant-loop-cell
invariant-loop-cell l = AreRowsBelow l.inst l.cell l.rows
