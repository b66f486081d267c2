-- What the loop of `marked_tracks` keeps from turn to turn.
use Rattle.std.proofs.Common.{take}
use Rattle.discretise.specs.Stations.{AreMarkedNames}
use Rattle.discretise.proofs.stations.marked_tracks.Given as goal

abbrev pub invariant-loop-at : goal.invariant-loop-at
invariant-loop-at l = AreMarkedNames l.net (take l.at l.station.tracks) l.marks.items
