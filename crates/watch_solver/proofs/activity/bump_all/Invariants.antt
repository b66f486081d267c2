-- What the loop of `bump_all` keeps from turn to turn.
use Rattle.std.specs.Prelude.{◌≡◌, length}
use Rattle.watch_solver.proofs.activity.bump_all.Given as goal

abbrev pub invariant-lits : goal.invariant-lits
invariant-lits l = (length l.stamps ≡ length l.initial.stamps) × (l.order.vars ≡ l.initial.order.vars) × (l.order.waits ≡ l.initial.order.waits)
