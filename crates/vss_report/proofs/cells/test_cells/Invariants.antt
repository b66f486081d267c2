-- What the loop of `test_cells` keeps from turn to turn.
use Rattle.std.specs.Prelude.{length}
use Rattle.vss_report.proofs.CellLemmas.{IsCellsFront}
use Rattle.vss_report.proofs.cells.test_cells.Given as goal

-- cells are read of the text, and this is left
abbrev pub invariant-loop-rest : goal.invariant-loop-rest
invariant-loop-rest l = IsCellsFront l.fn.text l.rest

abbrev pub decreases-loop-rest : goal.decreases-loop-rest
decreases-loop-rest l = length l.rest
