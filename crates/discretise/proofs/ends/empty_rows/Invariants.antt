-- What the loop of `empty_rows` keeps from turn to turn.
use Rattle.std.specs.Prelude.{◌≡◌, [], All, length}
use Rattle.discretise.proofs.ends.empty_rows.Given as goal

abbrev pub invariant-loop : goal.invariant-loop
invariant-loop l = (length l.rows.items ≡ l.counter) × All (λ r. r ≡ []) l.rows.items
