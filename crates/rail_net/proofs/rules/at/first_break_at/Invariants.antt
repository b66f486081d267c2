-- What the loop of `first_break_at` keeps from turn to turn.
use Rattle.vss_lists.specs.Breaks.{HoldsBelow}
use Rattle.rail_net.proofs.rules.at.first_break_at.Given as goal

abbrev pub invariant-loop-place : goal.invariant-loop-place
invariant-loop-place g l = HoldsBelow (g.R.RuleAt.holds l.rule) l.items l.place
