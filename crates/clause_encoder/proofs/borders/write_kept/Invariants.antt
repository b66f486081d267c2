-- What the loop of `write_kept` keeps from turn to turn.
use Rattle.std.specs.Prelude.{take}
use Rattle.std.specs.List.{flat_map}
use Rattle.clause_list.specs.BorderClauses.{kept_alone}
use Rattle.clause_encoder.specs.Writing.{Takes}
use Rattle.clause_encoder.proofs.borders.write_kept.Given as goal

abbrev pub invariant-loop-place : goal.invariant-loop-place
invariant-loop-place l = Takes l.fn.writer (flat_map kept_alone (take l.place l.net.kept)) l.writer
