-- What the loop of `counted` keeps from turn to turn.
use Rattle.std.specs.Prelude.{◌≡◌, ℕ, ◌<◌, ◌≤◌, vec_len, vec_capacity, slice_index}
use Rattle.activity_order.proofs.order.counted.Given as goal

abbrev pub invariant-counting : goal.invariant-counting
invariant-counting l = (vec_len l.numbers ≡ l.number) × (l.vars ≤ vec_capacity l.numbers) × ((k : ℕ) → k < l.number → slice_index l.numbers.items k ≡ k)
