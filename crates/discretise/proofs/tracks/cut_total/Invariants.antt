-- What the loop of `cut_total` keeps from turn to turn.
use Rattle.std.proofs.Common.{◌≡◌, take}
use Rattle.discretise.specs.Tracks.{cut_total}
use Rattle.discretise.proofs.tracks.cut_total.Given as goal

abbrev pub invariant-loop-at : goal.invariant-loop-at
invariant-loop-at l = l.total ≡ cut_total (take l.at l.tracks)
