-- What the loop of `write_each` keeps from turn to turn.
use Rattle.std.specs.Prelude.{take}
use Rattle.std.specs.List.{flat_map}
use Rattle.clause_encoder.specs.Writing.{Takes}
use Rattle.clause_encoder.proofs.part.write_each.Given as goal

abbrev pub invariant-loop-place : goal.invariant-loop-place
invariant-loop-place g l = Takes l.fn.writer (flat_map (g.P.Part.clauses l.part) (take l.place l.items)) l.writer
