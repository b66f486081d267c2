-- What the loop of `unmark` keeps from turn to turn.
use Rattle.std.specs.Prelude.{drop}
use Rattle.log_checker.proofs.AssignedLemmas.{AreLeft}
use Rattle.log_checker.proofs.assignment.unmark.Given as goal

-- the marks that stand belong to the literals that are left
abbrev pub invariant-loop-lit : goal.invariant-loop-lit
invariant-loop-lit l = AreLeft l.vars l.marks (drop l.lit-index l.trail)
