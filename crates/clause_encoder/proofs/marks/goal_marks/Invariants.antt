-- What the loop of `goal_marks` keeps from turn to turn.
use Rattle.std.specs.Prelude.{◌≡◌, map, false, slice_index_or}
use Rattle.clause_list.specs.Ranges.{from_below}
use Rattle.clause_encoder.proofs.marks.goal_marks.Given as goal

abbrev pub invariant-loop-item : goal.invariant-loop-item
invariant-loop-item g l = l.marks ≡ map (λ w. slice_index_or (g.M.Moves.table l.table l.inst).goals w false) (from_below 0 l.item)
