-- What the loop of `add_entries` keeps from turn to turn.
use Rattle.std.specs.Prelude.{take}
use Rattle.clause_encoder.specs.Writing.{Adds}
use Rattle.clause_encoder.specs.Fitting.{entering}
use Rattle.clause_encoder.proofs.enter.add_entries.Given as goal

abbrev pub invariant-loop-place : goal.invariant-loop-place
invariant-loop-place g l = Adds l.fn.writer (entering (g.M.Moves.table l.table l.inst) l.train l.step (take l.place l.items)) l.writer
