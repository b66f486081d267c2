-- What the loop of `are_open` keeps from turn to turn.
use Rattle.std.proofs.Common.{take}
use Rattle.discretise.specs.Places.{AreOpenEnds}
use Rattle.discretise.proofs.places.are_open.Given as goal

abbrev pub invariant-loop-at : goal.invariant-loop-at
invariant-loop-at l = AreOpenEnds l.tracks (take l.at l.ends)
