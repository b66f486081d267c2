-- What the loop of `grid_tracks` keeps from turn to turn.
use Rattle.discretise.proofs.TrackLemmas.{AreLaidBelow}
use Rattle.discretise.proofs.tracks.grid_tracks.Given as goal

abbrev pub invariant-loop-number : goal.invariant-loop-number
invariant-loop-number l = AreLaidBelow l.net l.timetable l.number l.gs.items l.first l.cut
