-- What the loop of `read_clause` keeps from turn to turn.
use Rattle.std.specs.Prelude.{take}
use Rattle.search_trail.specs.Trails.{known_of}
use Rattle.plain_solver.specs.Plain.{SoFar}
use Rattle.plain_solver.proofs.reading.read_clause.Given as goal

abbrev pub invariant-loop-lit : goal.invariant-loop-lit
invariant-loop-lit l = SoFar (known_of l.trail.entries) (take l.lit-index l.lits) l.free
