-- What the loop of `home_marks` keeps from turn to turn.
use Rattle.std.specs.Prelude.{◌≡◌, map}
use Rattle.clause_list.specs.Ranges.{from_below}
use Rattle.clause_list.specs.Cones.{leads_home_by}
use Rattle.clause_encoder.proofs.marks.home_marks.Given as goal

abbrev pub invariant-loop-item : goal.invariant-loop-item
invariant-loop-item g l = l.new ≡ map (leads_home_by (g.M.Moves.table l.table l.inst) l.marks) (from_below 0 l.item)
