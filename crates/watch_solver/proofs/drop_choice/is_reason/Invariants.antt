-- What the loop of `is_reason` keeps from turn to turn.
use Rattle.watch_solver.proofs.DropLemmas.{NoReasonTo}
use Rattle.watch_solver.proofs.drop_choice.is_reason.Given as goal

abbrev pub invariant-lits : goal.invariant-lits
invariant-lits l = NoReasonTo l.lits l.trail.entries l.id l.lit-index
