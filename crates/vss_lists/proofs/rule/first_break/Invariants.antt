-- What the loop of `first_break` keeps from turn to turn.
use Rattle.vss_lists.specs.Breaks.{HoldsBelow}
use Rattle.vss_lists.proofs.rule.first_break.Given as goal

abbrev pub invariant-loop-place : goal.invariant-loop-place
invariant-loop-place g l = HoldsBelow (g.R.Rule.holds l.rule) l.items l.place
