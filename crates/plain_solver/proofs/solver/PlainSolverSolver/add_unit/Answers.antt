-- Why `PlainSolverSolver::add_unit` does what its contract says.
use Rattle.std.proofs.Common.{◌≡◌, ◌+◌, [], ◌∷◌, ◌++◌, ap, arith, ◌∙◌}
use Rattle.sat_core.specs.Search.{gives, log_of, units_of}
use Rattle.sat_core.proofs.SearchLaws.{units_given, log_given}
use Rattle.solver_face.specs.Solving.{Solving, numbers_used}
use Rattle.plain_solver.specs.States.{events_of}
use Rattle.plain_solver.proofs.StepLemmas.{numbers_used_is, numbers_used_unit, on_ok, on_either}
use Rattle.plain_solver.proofs.solver.PlainSolverSolver.add_unit.Goals as goal

pub give-given-requires-clause-numbered : goal.give-given-requires-clause-numbered
give-given-requires-clause-numbered c = omega (arith, c.requires.numbered, numbers_used_is c.self.inside.state c.self.inside.starved c.self.invariant, ap numbers_used c.self.view_is)

pub returns-clause-numbers : goal.returns-clause-numbers
returns-clause-numbers c = on_ok c.give-given.result _ _ (λ grew. numbers_used_unit c.self.inside.state c.give-given.new.state c.args.lit c.self.inside.starved c.is_err-self-inside.result c.give-given.ensures.formula grew ∙ ap (λ n. n + 1) (ap numbers_used c.self.view_is)) c.give-given.ensures.ok

pub returns-clause-units : goal.returns-clause-units
returns-clause-units c = on_ok c.give-given.result _ _ (λ grew. ap units_of grew ∙ (units_given (events_of c.self.inside.state) c.args.lit ∙ ap (λ (s : Solving). units_of s.events ++ c.args.lit ∷ []) c.self.view_is)) c.give-given.ensures.ok

pub returns-clause-log : goal.returns-clause-log
returns-clause-log c =
    on_either c.give-given.result (events_of c.give-given.new.state ≡ events_of c.self.inside.state ++ gives c.args.lit ∷ []) (events_of c.give-given.new.state ≡ events_of c.self.inside.state) (log_of (events_of c.give-given.new.state) ≡ log_of (events_of c.self.inside.state)) c.give-given.ensures.ok c.give-given.ensures.err
    (λ grew. ap log_of grew ∙ log_given (events_of c.self.inside.state) c.args.lit)
    (λ same. ap log_of same)
    ∙ ap (λ (s : Solving). log_of s.events) c.self.view_is
