-- What the loop of `rows_of` keeps from turn to turn.
use Rattle.std.specs.Prelude.{◌≡◌, map}
use Rattle.clause_list.specs.Ranges.{from_below}
use Rattle.clause_list.specs.Numbers.{section_of}
use Rattle.clause_encoder.specs.NetworkStore.{sections_alone}
use Rattle.clause_encoder.proofs.network.rows_of.Given as goal

abbrev pub invariant-loop-cell : goal.invariant-loop-cell
invariant-loop-cell l = l.rows ≡ map (section_of (sections_alone l.sections)) (from_below 0 l.cell)
