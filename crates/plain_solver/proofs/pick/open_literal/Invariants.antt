-- What the loop of `open_literal` keeps from turn to turn.
use Rattle.search_trail.specs.Trails.{known_of}
use Rattle.trail_values.proofs.FullLaws.{AreToldTo}
use Rattle.plain_solver.proofs.pick.open_literal.Given as goal

abbrev pub invariant-variables : goal.invariant-variables
invariant-variables l = AreToldTo (known_of l.trail.entries) l.place
