-- What the loop of `directed_of` keeps from turn to turn.
use Rattle.std.specs.Prelude.{◌≡◌, All}
use Rattle.cell_net.specs.Space.{IsCell}
use Rattle.sweep_table.specs.Growing.{directed}
use Rattle.sweep_table.proofs.grow.directed_of.Given as goal

abbrev pub invariant-loop-cell : goal.invariant-loop-cell
invariant-loop-cell l = (l.all.items ≡ directed l.cell) × All (λ d. IsCell l.inst d.cell) l.all.items
