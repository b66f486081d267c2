-- What the loop of `cells_of_station` keeps from turn to turn.
use Rattle.std.proofs.Common.{take}
use Rattle.discretise.specs.Stations.{IsStationOf}
use Rattle.discretise.proofs.stations.cells_of_station.Given as goal

abbrev pub invariant-loop-at : goal.invariant-loop-at
invariant-loop-at l = IsStationOf l.net (take l.at l.tracks) l.station l.cells.items
