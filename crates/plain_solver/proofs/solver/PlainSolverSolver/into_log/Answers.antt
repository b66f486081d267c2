-- Why `PlainSolverSolver::into_log` does what its contract says.
use Rattle.std.proofs.Common.{ap, sym, ◌∙◌}
use Rattle.derivation_log.specs.Steps.{derived_steps}
use Rattle.sat_core.specs.Search.{log_of}
use Rattle.solver_face.specs.Solving.{Solving}
use Rattle.plain_solver.proofs.StepLemmas.{log_is}
use Rattle.plain_solver.proofs.solver.PlainSolverSolver.into_log.Goals as goal

pub returns : goal.returns
returns c = ap (λ l. derived_steps l.steps) c.log_alone.ensures ∙ (sym (log_is c.self.inside.state c.self.invariant) ∙ ap (λ (s : Solving). log_of s.events) c.self.view_is)
