-- What the loop of `searched` keeps from turn to turn.
use Rattle.gap_clauses.specs.Searched.{AreSearchedBelow}
use Rattle.gap_clauses.proofs.build.searched.Given as goal

abbrev pub invariant-loop-cell : goal.invariant-loop-cell
invariant-loop-cell l = AreSearchedBelow l.search.inst.now l.cell l.found.lowest l.found.fans.items
