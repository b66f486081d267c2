-- What the loop of `have_no_cell_twice` keeps from turn to turn.
use Rattle.layout_rules.proofs.SeenCells.{MarksSeen}
use Rattle.layout_rules.proofs.paths.have_no_cell_twice.Given as goal

abbrev pub invariant-loop-directed : goal.invariant-loop-directed
invariant-loop-directed l = MarksSeen l.seen l.cells l.directed-index
