-- What the loop of `write_touched` keeps from turn to turn.
use Rattle.std.specs.Prelude.{take}
use Rattle.std.specs.List.{flat_map}
use Rattle.clause_encoder.specs.Writing.{Takes}
use Rattle.clause_encoder.specs.Fitting.{touching_one}
use Rattle.clause_encoder.proofs.touch.write_touched.Given as goal

abbrev pub invariant-loop-at : goal.invariant-loop-at
invariant-loop-at l = Takes l.fn.writer (flat_map (touching_one l.train l.step l.sweep) (take l.at l.cells)) l.writer
