-- What the loop of `add_followers` keeps from turn to turn.
use Rattle.std.specs.Prelude.{take}
use Rattle.clause_list.specs.RunClauses.{followers}
use Rattle.clause_encoder.specs.Writing.{Adds}
use Rattle.clause_encoder.proofs.go_on.add_followers.Given as goal

abbrev pub invariant-loop-at : goal.invariant-loop-at
invariant-loop-at l = Adds l.fn.writer (followers l.train l.step (take l.at l.items)) l.writer
