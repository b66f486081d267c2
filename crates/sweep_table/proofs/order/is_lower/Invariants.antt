-- What the loop of `is_lower` keeps from turn to turn.
use Rattle.std.specs.Prelude.{◌≡◌, take}
use Rattle.sweep_table.proofs.order.is_lower.Given as goal

abbrev pub invariant-loop-place : goal.invariant-loop-place
invariant-loop-place l = take l.place l.one ≡ take l.place l.other
