-- What the loop of `places_of` keeps from turn to turn.
use Rattle.std.specs.Prelude.{◌≡◌, map}
use Rattle.clause_list.specs.Ranges.{from_below}
use Rattle.clause_list.specs.Orders.{place_in_section}
use Rattle.clause_encoder.specs.NetworkStore.{sections_alone}
use Rattle.clause_encoder.proofs.network.places_of.Given as goal

abbrev pub invariant-loop-cell : goal.invariant-loop-cell
invariant-loop-cell l = l.places.items ≡ map (place_in_section (sections_alone l.sections)) (from_below 0 l.cell)
