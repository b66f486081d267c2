-- What padding keeps.
use Rattle.std.specs.Prelude.{◌≡◌, ◌≤◌, ◌-◌, ◌++◌, length, replicate, vec_capacity, None}
use Rattle.watch_store.proofs.table.pad.Given as goal

abbrev pub invariant-numbers : goal.invariant-numbers
invariant-numbers l = (l.places.items ≡ l.initial.places.items ++ replicate (length l.places.items - length l.initial.places.items) None) × (l.count ≤ vec_capacity l.places) × (length l.initial.places.items ≤ length l.places.items) × (length l.places.items - length l.initial.places.items ≤ l.count - length l.initial.places.items)

abbrev pub decreases-numbers : goal.decreases-numbers
decreases-numbers l = l.count - length l.places.items
