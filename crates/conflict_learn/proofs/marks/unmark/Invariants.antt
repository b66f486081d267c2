-- What the loop of `unmark` keeps from turn to turn.
use Rattle.std.specs.Prelude.{◌≡◌, length}
use Rattle.conflict_learn.proofs.MarkLemmas.{IsLeftFrom}
use Rattle.conflict_learn.proofs.marks.unmark.Given as goal

abbrev pub invariant-loop-var : goal.invariant-loop-var
invariant-loop-var l = (length l.flags ≡ length l.initial.flags) × IsLeftFrom l.flags l.touched l.var-index
