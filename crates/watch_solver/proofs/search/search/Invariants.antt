-- What the loop of `search` keeps from turn to turn.
use Rattle.std.specs.Prelude.{◌≡◌, ◌+◌, ◌^◌, ◌<◌, false}
use Rattle.solver_face.specs.Solving.{Searched}
use Rattle.watch_solver.specs.Running.{IsWatchState, watch_solving, still_to_do}
use Rattle.watch_solver.proofs.search.search.Given as goal

abbrev pub invariant-rounds : goal.invariant-rounds
invariant-rounds g l = IsWatchState l.state × (l.state.refuted ≡ false) × (0 < l.budget) × (l.state.last + l.budget < 2 ^ 32) × Searched (watch_solving l.initial.state false) (watch_solving l.state false) l.initial.budget l.budget

abbrev pub decreases-rounds : goal.decreases-rounds
decreases-rounds g l = still_to_do l.state l.budget
