-- What the loop of `calls` keeps from turn to turn.
use Rattle.std.specs.Prelude.{◌+◌, ◌*◌, ◌≤◌}
use Rattle.solver_face.specs.Solving.{numbers_used}
use Rattle.search_tests.proofs.tests.scenes.calls.Given as goal

abbrev pub invariant-loop-row : goal.invariant-loop-row
invariant-loop-row g l = numbers_used (g.S.Solver.solving l.solver) ≤ 100000 + 100000 * l.row-index
