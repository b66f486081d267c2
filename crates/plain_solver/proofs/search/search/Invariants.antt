-- What the loop of `search` keeps from turn to turn.
use Rattle.std.specs.Prelude.{◌≡◌, ◌+◌, ◌^◌, ◌<◌, false, length}
use Rattle.solver_face.specs.Solving.{Searched}
use Rattle.plain_solver.specs.States.{IsState, solving_of, left_over}
use Rattle.plain_solver.proofs.search.search.Given as goal

abbrev pub invariant-rounds : goal.invariant-rounds
invariant-rounds l = IsState l.state × (l.state.refuted ≡ false) × (0 < l.budget) × (length l.state.clauses.clauses + l.budget < 2 ^ 32) × Searched (solving_of l.initial.state false) (solving_of l.state false) l.initial.budget l.budget

abbrev pub decreases-rounds : goal.decreases-rounds
decreases-rounds l = left_over l.state l.budget
