-- Why `pad` does what its contract says.
use Rattle.std.proofs.Common.{◌≡◌, ◌-◌, ◌++◌, ℕ, length, replicate, ap, ◌∙◌, arith}
use Rattle.watch_store.proofs.PlaceLemmas.{no_place}
use Rattle.watch_store.proofs.table.pad.Goals as goal

pub returns : goal.returns
returns c =
    let all : length c.numbers.places.items - length c.args.places.now.items ≡ c.args.count - length c.args.places.now.items = omega (arith, c.numbers.invariant.2, c.numbers.invariant.3, c.numbers-test.false, c.len.ensures) in
    c.numbers.invariant.0 ∙ ap (λ (n : ℕ). c.args.places.now.items ++ replicate n no_place) all
