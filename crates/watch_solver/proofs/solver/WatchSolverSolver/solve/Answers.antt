-- Why `WatchSolverSolver::solve` does what its contract says.
use Rattle.std.proofs.Common.{◌+◌, false, ap, sym, subst, ◌∙◌}
use Rattle.sat_core.specs.Search.{units_of}
use Rattle.solver_face.specs.Solving.{Solving, numbers_used, IsRefuted}
use Rattle.solver_face.proofs.SolvingLaws.{numbers_used_grows, units_stay}
use Rattle.watch_solver.specs.Running.{watch_solving}
use Rattle.watch_solver.proofs.RoundLemmas.{refuted_back, answered}
use Rattle.watch_solver.proofs.solver.WatchSolverSolver.solve.Goals as goal

pub returns-clause-numbers : goal.returns-clause-numbers
returns-clause-numbers g c = numbers_used_grows (watch_solving c.self.inside.state false) (watch_solving c.search-answer.new.state false) c.args.budget.now c.search-answer.new.budget c.search-answer.ensures.searched ∙ ap (λ (s : Solving). numbers_used s + c.args.budget.now) c.self.view_is

pub returns-clause-units : goal.returns-clause-units
returns-clause-units g c = units_stay (watch_solving c.self.inside.state false) (watch_solving c.search-answer.new.state false) c.args.budget.now c.search-answer.new.budget c.search-answer.ensures.searched ∙ ap (λ (s : Solving). units_of s.events) c.self.view_is

pub returns-clause-stays_refuted : goal.returns-clause-stays_refuted
returns-clause-stays_refuted g c = λ refuted. answered c.search-answer.result (c.search-answer.ensures.stays_refuted (refuted_back c.self.inside.state c.self.inside.starved (c.self.invariant.1 c.if-self.false) (subst IsRefuted (sym c.self.view_is) refuted)))
