-- What the loop of `rows_of` keeps from turn to turn.
use Rattle.std.specs.Prelude.{◌≡◌, take}
use Rattle.sweep_table.proofs.groups.rows_of.Given as goal

abbrev pub invariant-loop-place : goal.invariant-loop-place
invariant-loop-place g l = l.rows ≡ take l.place l.lists
