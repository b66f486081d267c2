-- What the loop of `place_of` keeps from turn to turn.
use Rattle.std.specs.Prelude.{◌≤◌, ◌-◌, ℕ}
use Rattle.std.specs.Prelude.{◌≡◌, length, slice_get, Some}
use Rattle.sweep_table.proofs.order.place_of.Given as goal

-- wherever the cells stand, it is from low to high
abbrev pub invariant-loop-low : goal.invariant-loop-low
invariant-loop-low l = (l.high ≤ length l.sweeps) × ((q : ℕ) → slice_get l.sweeps q ≡ Some l.cells → (l.low ≤ q) × (q ≤ l.high))

abbrev pub decreases-loop-low : goal.decreases-loop-low
decreases-loop-low l = l.high - l.low
