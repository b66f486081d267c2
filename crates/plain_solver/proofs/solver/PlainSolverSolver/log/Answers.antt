-- Why `PlainSolverSolver::log` does what its contract says.
use Rattle.std.proofs.Common.{ap, sym, ◌∙◌}
use Rattle.sat_core.specs.Search.{log_of}
use Rattle.solver_face.specs.Solving.{Solving}
use Rattle.plain_solver.proofs.StepLemmas.{log_is}
use Rattle.plain_solver.proofs.solver.PlainSolverSolver.log.Goals as goal

pub returns-clause-steps : goal.returns-clause-steps
returns-clause-steps c = sym (log_is c.self.inside.state c.self.invariant) ∙ ap (λ (s : Solving). log_of s.events) c.self.view_is
