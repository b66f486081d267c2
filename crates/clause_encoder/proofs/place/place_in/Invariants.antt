-- What the loop of `place_in` keeps from turn to turn.
use Rattle.std.specs.Prelude.{◌-◌}
use Rattle.clause_encoder.specs.TrainStore.{IsSearched}
use Rattle.clause_encoder.proofs.place.place_in.Given as goal

abbrev pub invariant-loop-low : goal.invariant-loop-low
invariant-loop-low l = IsSearched l.items l.item l.low l.high

abbrev pub decreases-loop-low : goal.decreases-loop-low
decreases-loop-low l = l.high - l.low
