-- What the loop of `sections_of` keeps from turn to turn.
use Rattle.std.specs.Prelude.{◌≡◌, map, take}
use Rattle.clause_encoder.proofs.network.sections_of.Given as goal

abbrev pub invariant-loop-cell : goal.invariant-loop-cell
invariant-loop-cell l = l.sections.items ≡ map (λ c. c.section.0) (take l.cell l.inst.cells)
