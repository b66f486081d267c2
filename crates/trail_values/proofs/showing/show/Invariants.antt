-- What the loop of `show` keeps from turn to turn.
use Rattle.std.specs.Prelude.{◌≡◌, length}
use Rattle.search_trail.specs.Trails.{known_of}
use Rattle.trail_values.proofs.FullLaws.{AreTruthsTo}
use Rattle.trail_values.proofs.showing.show.Given as goal

abbrev pub invariant-variables : goal.invariant-variables
invariant-variables l = (length l.valuation.values ≡ l.trail.vars) × AreTruthsTo (known_of l.trail.entries) l.valuation.values l.place
