-- What the loop of `first_off` keeps from turn to turn.
use Rattle.vss_lists.specs.Breaks.{HoldsBelow}
use Rattle.discretise.proofs.rules.first_off.Given as goal

abbrev pub invariant-loop-place : goal.invariant-loop-place
invariant-loop-place g l = HoldsBelow (g.R.GridRule.holds l.rule l.timetable) l.items l.place
