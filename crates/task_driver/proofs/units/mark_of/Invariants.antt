-- What the loop of `mark_of` keeps from turn to turn.
use Rattle.std.proofs.Common.{◌≡◌, ◌-◌, ◌++◌}
use Rattle.task_driver.specs.BoundUnits.{order_hints}
use Rattle.task_driver.proofs.units.mark_of.Given as goal

abbrev pub invariant-loop-step : goal.invariant-loop-step
invariant-loop-step l = l.hints.items ++ order_hints l.var_map.before_order l.clauses l.last (l.unit.most - l.last - l.step) ≡ order_hints l.var_map.before_order l.clauses l.last (l.unit.most - l.last)
