-- What the loop of `candidates_on` keeps from turn to turn.
use Rattle.std.proofs.Common.{◌≡◌, take}
use Rattle.discretise.specs.Places.{nodes_of_candidates}
use Rattle.discretise.proofs.places.candidates_on.Given as goal

abbrev pub invariant-loop-at : goal.invariant-loop-at
invariant-loop-at l = l.nodes.items ≡ nodes_of_candidates l.joints (take l.at l.tracks)
