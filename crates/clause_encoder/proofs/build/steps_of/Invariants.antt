-- What the loop of `steps_of` keeps from turn to turn.
use Rattle.std.specs.Prelude.{◌≡◌, ◌+◌, map, take, length, sum_by}
use Rattle.clause_list.specs.Ranges.{from_below}
use Rattle.clause_encoder.specs.TrainStore.{step_number}
use Rattle.clause_encoder.proofs.build.steps_of.Given as goal

abbrev pub invariant-loop-step : goal.invariant-loop-step
invariant-loop-step l = (l.numbers.items ≡ map (step_number l.first l.cones) (from_below 0 l.step)) × (l.next ≡ l.first + sum_by length (take l.step l.cones))
