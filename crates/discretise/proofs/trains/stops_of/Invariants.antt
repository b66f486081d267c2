-- What the loop of `stops_of` keeps from turn to turn.
use Rattle.std.proofs.Common.{◌≡◌, map, take}
use Rattle.discretise.specs.Trains.{stop_of}
use Rattle.discretise.proofs.trains.stops_of.Given as goal

abbrev pub invariant-loop-at : goal.invariant-loop-at
invariant-loop-at l = l.stops.items ≡ map (stop_of l.timetable) (take l.at l.parts)
