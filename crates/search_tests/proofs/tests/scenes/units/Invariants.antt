-- What the loop of `units` keeps from turn to turn.
use Rattle.std.specs.Prelude.{◌≡◌, ◌+◌, ◌*◌, ◌≤◌}
use Rattle.solver_face.specs.Solving.{numbers_used}
use Rattle.search_tests.proofs.tests.scenes.units.Given as goal

abbrev pub invariant-loop-number : goal.invariant-loop-number
invariant-loop-number g l = (numbers_used (g.S.Solver.solving l.solver) ≤ 100000 + 2000 * l.number-index) × ((g.S.Solver.solving l.solver).vars ≡ l.vars)
