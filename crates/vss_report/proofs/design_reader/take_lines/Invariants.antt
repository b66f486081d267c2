-- What the loop of `take_lines` keeps from turn to turn.
use Rattle.std.specs.Prelude.{length}
use Rattle.vss_report.proofs.DesignLemmas.{IsTakenTo}
use Rattle.vss_report.proofs.design_reader.take_lines.Given as goal

-- the report is read up to here, and what its lines give is taken
abbrev pub invariant-loop-alloc : goal.invariant-loop-alloc
invariant-loop-alloc l = IsTakenTo l.scene.labels l.bytes l.number l.place l.rest l.parts

abbrev pub decreases-loop-alloc : goal.decreases-loop-alloc
decreases-loop-alloc l = length l.rest
