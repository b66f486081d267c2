-- Why `WatchSolverSolver::add_unit` does what its contract says.
use Rattle.std.proofs.Common.{◌≡◌, ◌+◌, [], ◌∷◌, ◌++◌, ap, ◌∙◌}
use Rattle.sat_core.specs.Search.{gives, log_of, units_of}
use Rattle.sat_core.proofs.SearchLaws.{units_given, log_given}
use Rattle.solver_face.specs.Solving.{Solving, numbers_used}
use Rattle.watch_solver.specs.Running.{watch_solving}
use Rattle.watch_solver.proofs.SearchLemmas.{numbers_used_given}
use Rattle.watch_solver.proofs.RoundLemmas.{on_ok, on_either}
use Rattle.watch_solver.proofs.solver.WatchSolverSolver.add_unit.Goals as goal

pub returns-clause-numbers : goal.returns-clause-numbers
returns-clause-numbers c = on_ok c.give-given.result _ _ (λ grew. numbers_used_given (watch_solving c.self.inside.state c.self.inside.starved) (watch_solving c.give-given.new.state c.is_err-self-inside.result) c.args.lit c.give-given.ensures.formula grew ∙ ap (λ n. n + 1) (ap numbers_used c.self.view_is)) c.give-given.ensures.ok

pub returns-clause-units : goal.returns-clause-units
returns-clause-units c = on_ok c.give-given.result _ _ (λ grew. ap units_of grew ∙ (units_given c.self.inside.state.history c.args.lit ∙ ap (λ (s : Solving). units_of s.events ++ c.args.lit ∷ []) c.self.view_is)) c.give-given.ensures.ok

pub returns-clause-log : goal.returns-clause-log
returns-clause-log c =
    on_either c.give-given.result (c.give-given.new.state.history ≡ c.self.inside.state.history ++ gives c.args.lit ∷ []) (c.give-given.new.state.history ≡ c.self.inside.state.history) (log_of c.give-given.new.state.history ≡ log_of c.self.inside.state.history) c.give-given.ensures.ok c.give-given.ensures.err
    (λ grew. ap log_of grew ∙ log_given c.self.inside.state.history c.args.lit)
    (λ same. ap log_of same)
    ∙ ap (λ (s : Solving). log_of s.events) c.self.view_is
