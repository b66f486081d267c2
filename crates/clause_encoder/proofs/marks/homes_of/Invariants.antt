-- What the loop of `homes_of` keeps from turn to turn.
use Rattle.std.specs.Prelude.{◌≡◌, map}
use Rattle.clause_list.specs.Ranges.{from_below}
use Rattle.clause_list.specs.Cones.{home}
use Rattle.clause_encoder.proofs.marks.homes_of.Given as goal

abbrev pub invariant-loop-step : goal.invariant-loop-step
invariant-loop-step g l = (l.homes.items ≡ map (home (g.M.Moves.table l.table l.inst)) (from_below 0 l.step)) × (l.marks ≡ home (g.M.Moves.table l.table l.inst) l.step)
