-- What the loop of `cut_of` keeps from turn to turn.
use Rattle.std.specs.Prelude.{◌-◌}
use Rattle.watch_solver.proofs.drop_choice.cut_of.Given as goal

abbrev pub decreases-halves : goal.decreases-halves
decreases-halves l = l.high - l.low
