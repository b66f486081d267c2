-- What the loop of `no_marks` keeps from turn to turn.
use Rattle.std.proofs.Common.{◌≡◌, ℕ, false, length, slice_index_or}
use Rattle.plan_checker.proofs.stops.no_marks.Given as goal

abbrev pub invariant-loop : goal.invariant-loop
invariant-loop l = (length l.marks.items ≡ l.counter) × ((cell : ℕ) → slice_index_or l.marks.items cell false ≡ false)
