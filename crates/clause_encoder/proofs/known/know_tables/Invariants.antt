-- What the loop of `know_tables` keeps from turn to turn.
use Rattle.std.specs.Prelude.{All, take}
use Rattle.clause_encoder.specs.TableLists.{IsKnownBy}
use Rattle.clause_encoder.proofs.known.know_tables.Given as goal

abbrev pub invariant-loop-place : goal.invariant-loop-place
invariant-loop-place g l = All (IsKnownBy g.M.Moves.items g.M.Moves.table l.inst) (take l.place l.tables)
