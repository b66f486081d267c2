-- What the loop of `put_borders` keeps from turn to turn.
use Rattle.std.specs.Prelude.{◌≡◌, take}
use Rattle.clause_encoder.specs.WalkFitting.{on_walk}
use Rattle.clause_encoder.proofs.gaps.put_borders.Given as goal

abbrev pub invariant-loop-place : goal.invariant-loop-place
invariant-loop-place l = l.clause.items ≡ on_walk l.number (take l.place l.candidates)
