-- What the loop of `none_of` keeps from turn to turn.
use Rattle.std.specs.Prelude.{◌≡◌, [], All, length}
use Rattle.sweep_table.proofs.groups.none_of.Given as goal

abbrev pub invariant-loop : goal.invariant-loop
invariant-loop g l = (length l.lists.items ≡ l.counter) × All (λ g. g ≡ []) l.lists.items
