-- What the loop of `places_of` keeps from turn to turn.
use Rattle.std.specs.Prelude.{◌≡◌, length}
use Rattle.gap_clauses.specs.Searched.{ArePlacesOf}
use Rattle.gap_clauses.proofs.candidates.places_of.Given as goal

abbrev pub invariant-loop-number : goal.invariant-loop-number
invariant-loop-number l = (length l.places.items ≡ l.number) × ArePlacesOf l.nodes l.places.items
