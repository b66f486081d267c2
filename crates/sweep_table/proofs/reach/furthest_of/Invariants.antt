-- What the loop of `furthest_of` keeps from turn to turn.
use Rattle.std.specs.Prelude.{◌≤◌, All, take}
use Rattle.sweep_table.specs.Reach.{reach_of}
use Rattle.sweep_table.proofs.reach.furthest_of.Given as goal

abbrev pub invariant-loop-place : goal.invariant-loop-place
invariant-loop-place l = All (λ d. reach_of l.reach d ≤ l.furthest) (take l.place l.next)
