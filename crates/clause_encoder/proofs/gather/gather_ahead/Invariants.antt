-- What the loop of `gather_ahead` keeps from turn to turn.
use Rattle.clause_encoder.specs.Gathering.{IsGathered}
use Rattle.clause_encoder.proofs.gather.gather_ahead.Given as goal

abbrev pub invariant-loop-step : goal.invariant-loop-step
invariant-loop-step g l = IsGathered (g.M.Moves.table l.table l.inst) l.window l.last l.step l.marks l.cones l.count
