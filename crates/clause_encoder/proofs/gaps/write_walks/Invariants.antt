-- What the loop of `write_walks` keeps from turn to turn.
use Rattle.std.specs.Prelude.{take}
use Rattle.std.specs.List.{flat_map}
use Rattle.clause_list.specs.Coding.{walks_in}
use Rattle.clause_encoder.specs.Writing.{Takes}
use Rattle.clause_encoder.specs.WalkFitting.{on_walk_alone}
use Rattle.clause_encoder.proofs.gaps.write_walks.Given as goal

abbrev pub invariant-loop-walk : goal.invariant-loop-walk
invariant-loop-walk l = Takes l.fn.writer (flat_map (on_walk_alone l.number) (take l.walk (walks_in l.gaps l.cell l.other))) l.writer
