-- What the loop of `add_beginnings` keeps from turn to turn.
use Rattle.std.specs.Prelude.{◌≡◌, ◌≤◌, ◌⊎◌, map}
use Rattle.clause_list.specs.Ranges.{from_below}
use Rattle.clause_encoder.specs.Writing.{Adds}
use Rattle.clause_encoder.specs.Meeting.{met_at}
use Rattle.clause_encoder.proofs.stop_met.add_beginnings.Given as goal

abbrev pub invariant-loop-step : goal.invariant-loop-step
invariant-loop-step l = Adds l.fn.writer (map (met_at l.train l.place) (from_below l.first l.step)) l.writer × ((l.step ≤ l.end) ⊎ (l.step ≡ l.first))
