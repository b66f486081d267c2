-- What the loop of `read_sweep` keeps from turn to turn.
use Rattle.std.specs.Prelude.{length}
use Rattle.vss_report.proofs.SweepLemmas.{AreFound}
use Rattle.vss_report.proofs.sweep_reader.read_sweep.Given as goal

-- the first cells are found, and these are left
abbrev pub invariant-loop-rest : goal.invariant-loop-rest
invariant-loop-rest l = AreFound l.scene.labels l.text l.rest l.cells.items

abbrev pub decreases-loop-rest : goal.decreases-loop-rest
decreases-loop-rest l = length l.rest
