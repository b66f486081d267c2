-- What the loop of `gather` keeps from turn to turn.
use Rattle.std.specs.Prelude.{◌≡◌, ◌≤◌, length}
use Rattle.sweep_table.specs.Growing.{sweeps_below}
use Rattle.sweep_table.proofs.grow.gather.Given as goal

abbrev pub invariant-loop-advance : goal.invariant-loop-advance
invariant-loop-advance l = (length l.sweeps ≤ 50000) × (l.sweeps ≡ sweeps_below l.inst l.train l.after l.advance)
