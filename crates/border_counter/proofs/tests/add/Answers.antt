-- Why `add` does what its contract says.
use Rattle.std.proofs.Common.{◌≡◌, ℕ, ◌+◌, ◌*◌, ◌/◌, refl, length, arith}
use Rattle.border_counter.specs.Counter.{sum_to}
use Rattle.border_counter.proofs.tests.add.Goals as goal

rows : (n count : ℕ) → count ≡ n → count * (count + 1) / 2 ≡ sum_to n
unfolding sum_to
rows n count same = rw same refl

pub add_counter-requires-clause-variables : goal.add_counter-requires-clause-variables
add_counter-requires-clause-variables g c = let all = rows (length c.args.inputs.now) (length c.args.inputs.now) refl in omega (arith, all)

pub add_counter-requires-clause-numbered : goal.add_counter-requires-clause-numbered
add_counter-requires-clause-numbered g c = let size = c.counter_size-size.ensures.clauses c.args.inputs.now c.args.first_var in omega (arith, size)
