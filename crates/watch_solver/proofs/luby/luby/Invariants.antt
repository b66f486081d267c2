-- What the loop of `luby` keeps from turn to turn.
use Rattle.std.specs.Prelude.{◌≤◌}
use Rattle.watch_solver.proofs.LubyLemmas.{IsInBlock}
use Rattle.watch_solver.proofs.luby.luby.Given as goal

abbrev pub invariant-halving : goal.invariant-halving
invariant-halving l = IsInBlock l.number l.rest l.size × (l.size ≤ 4294967295)

abbrev pub decreases-halving : goal.decreases-halving
decreases-halving l = l.size
