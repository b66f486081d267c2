-- What the loop of `stations_of` keeps from turn to turn.
use Rattle.std.proofs.Common.{take}
use Rattle.std.specs.List.{AllZip}
use Rattle.discretise.specs.Stations.{IsStationOf}
use Rattle.discretise.proofs.stations.stations_of.Given as goal

abbrev pub invariant-loop-at : goal.invariant-loop-at
invariant-loop-at l = AllZip (IsStationOf l.net l.tracks) (take l.at l.net.stations) l.stations.items
