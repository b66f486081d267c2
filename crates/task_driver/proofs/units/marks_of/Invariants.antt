-- What the loop of `marks_of` keeps from turn to turn.
use Rattle.std.proofs.Common.{◌≡◌, map, take}
use Rattle.task_driver.specs.BoundUnits.{mark_in}
use Rattle.task_driver.proofs.units.marks_of.Given as goal

abbrev pub invariant-loop-unit : goal.invariant-loop-unit
invariant-loop-unit l = l.marks.items ≡ map (mark_in l.var_map l.clauses l.last) (take l.unit-index l.units)
