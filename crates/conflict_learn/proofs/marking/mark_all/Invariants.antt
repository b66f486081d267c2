-- What the loop of `mark_all` keeps from turn to turn.
use Rattle.std.specs.Prelude.{take, ◌≤◌}
use Rattle.conflict_learn.specs.Working.{MarksOf}
use Rattle.conflict_learn.proofs.marking.mark_all.Given as goal

abbrev pub invariant-loop-lit : goal.invariant-loop-lit
invariant-loop-lit l = MarksOf l.trail l.initial.marks l.marks (take l.lit-index l.lits) l.found × (l.found ≤ l.lit-index)
