-- What the loop of `stops_of` keeps from turn to turn.
use Rattle.std.specs.Prelude.{◌≡◌, ◌≤◌, ◌+◌, map, take, sum_by}
use Rattle.clause_list.specs.Ranges.{from_below}
use Rattle.clause_encoder.specs.declared.limits.TheConstants.{VARIABLES}
use Rattle.clause_encoder.specs.TrainStore.{beginning_count, stop_number}
use Rattle.clause_encoder.proofs.build.stops_of.Given as goal

abbrev pub invariant-loop-place : goal.invariant-loop-place
invariant-loop-place l = (l.numbers.items ≡ map (stop_number l.train.start l.train.by l.first l.train.stops) (from_below 0 l.place)) × (l.next ≡ l.first + sum_by (beginning_count l.train.start l.train.by) (take l.place l.train.stops)) × (l.next ≤ VARIABLES + 1)
