-- What the loop of `bump_met` keeps from turn to turn.
use Rattle.std.specs.Prelude.{◌≡◌, length}
use Rattle.watch_solver.proofs.activity.bump_met.Given as goal

abbrev pub invariant-hints : goal.invariant-hints
invariant-hints l = (length l.stamps ≡ length l.initial.stamps) × (l.order.vars ≡ l.initial.order.vars) × (l.order.waits ≡ l.initial.order.waits)
