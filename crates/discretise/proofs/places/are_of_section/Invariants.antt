-- What the loop of `are_of_section` keeps from turn to turn.
use Rattle.std.proofs.Common.{take}
use Rattle.discretise.specs.Places.{AreOfSection}
use Rattle.discretise.proofs.places.are_of_section.Given as goal

abbrev pub invariant-loop-at : goal.invariant-loop-at
invariant-loop-at l = AreOfSection l.tracks l.section (take l.at l.ends)
