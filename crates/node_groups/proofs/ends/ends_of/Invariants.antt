-- What the loop of `ends_of` keeps from turn to turn.
use Rattle.std.proofs.Common.{◌≡◌, ◌++◌, drop}
use Rattle.node_groups.specs.Ends.{ends_from}
use Rattle.node_groups.proofs.ends.ends_of.Given as goal

abbrev pub invariant-loop-place : goal.invariant-loop-place
invariant-loop-place l = l.ends.items ++ ends_from l.place (drop l.place l.segments) ≡ ends_from 0 l.segments
