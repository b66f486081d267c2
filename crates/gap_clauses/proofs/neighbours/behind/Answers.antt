-- Why `behind` does what its contract says.
use Rattle.std.proofs.Common.{arith}
use Rattle.gap_clauses.proofs.NeighbourLemmas.{all_behind}
use Rattle.gap_clauses.proofs.neighbours.behind.Goals as goal

pub returns : goal.returns
returns c = all_behind _ _ _ c.loop-number.number _ c.loop-number.invariant (omega (arith, c.loop-number-test.false, c.cell_count-number-end.ensures.value))
