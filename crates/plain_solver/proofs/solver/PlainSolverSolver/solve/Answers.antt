-- Why `PlainSolverSolver::solve` does what its contract says.
use Rattle.std.proofs.Common.{◌+◌, false, ap, sym, arith, subst, ◌∙◌}
use Rattle.sat_core.specs.Search.{units_of}
use Rattle.solver_face.specs.Solving.{Solving, numbers_used, IsRefuted}
use Rattle.solver_face.proofs.SolvingLaws.{numbers_used_grows, units_stay}
use Rattle.plain_solver.specs.States.{solving_of}
use Rattle.plain_solver.proofs.StepLemmas.{numbers_used_is, refuted_back, answered}
use Rattle.plain_solver.proofs.solver.PlainSolverSolver.solve.Goals as goal

pub search-answer-requires-clause-numbered : goal.search-answer-requires-clause-numbered
search-answer-requires-clause-numbered g c = omega (arith, c.requires.numbered, numbers_used_is c.self.inside.state c.self.inside.starved c.self.invariant, ap numbers_used c.self.view_is)

pub returns-clause-numbers : goal.returns-clause-numbers
returns-clause-numbers g c = numbers_used_grows (solving_of c.self.inside.state false) (solving_of c.search-answer.new.state false) c.args.budget.now c.search-answer.new.budget c.search-answer.ensures.searched ∙ ap (λ (s : Solving). numbers_used s + c.args.budget.now) c.self.view_is

pub returns-clause-units : goal.returns-clause-units
returns-clause-units g c = units_stay (solving_of c.self.inside.state false) (solving_of c.search-answer.new.state false) c.args.budget.now c.search-answer.new.budget c.search-answer.ensures.searched ∙ ap (λ (s : Solving). units_of s.events) c.self.view_is

pub returns-clause-stays_refuted : goal.returns-clause-stays_refuted
returns-clause-stays_refuted g c = λ refuted. answered c.search-answer.result (c.search-answer.ensures.stays_refuted (refuted_back c.self.inside.state c.self.inside.starved c.self.invariant (subst IsRefuted (sym c.self.view_is) refuted)))
