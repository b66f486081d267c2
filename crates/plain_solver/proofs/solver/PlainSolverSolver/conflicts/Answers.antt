-- Why `PlainSolverSolver::conflicts` does what its contract says.
use Rattle.std.proofs.Common.{ap, sym, arith, ◌∙◌}
use Rattle.sat_core.specs.Search.{log_of, adds_in}
use Rattle.solver_face.specs.Solving.{Solving}
use Rattle.plain_solver.proofs.StepLemmas.{conflicts_are, steps_few}
use Rattle.plain_solver.proofs.solver.PlainSolverSolver.conflicts.Goals as goal

pub overflow_cast-result : goal.overflow_cast-result
overflow_cast-result c = omega (arith, c.len.ensures, steps_few c.self.inside.state c.self.invariant)

pub returns : goal.returns
returns c = c.len.ensures ∙ (sym (conflicts_are c.self.inside.state c.self.invariant) ∙ ap (λ (s : Solving). adds_in (log_of s.events)) c.self.view_is)
