-- What the loop of `count_upto` keeps from turn to turn.
use Rattle.std.specs.Prelude.{◌≤◌}
use Rattle.watch_solver.proofs.drop_choice.count_upto.Given as goal

abbrev pub invariant-meetings : goal.invariant-meetings
invariant-meetings l = l.count ≤ l.met-index
