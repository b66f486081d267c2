-- What the loop of `test_list` keeps from turn to turn.
use Rattle.std.specs.Prelude.{length}
use Rattle.derivation_log.proofs.ListLemmas.{IsSoFar}
use Rattle.derivation_log.proofs.list.test_list.Given as goal

-- so many words are read of the text, and this is left of it
abbrev pub invariant-loop-rest : goal.invariant-loop-rest
invariant-loop-rest g l = IsSoFar g.W.Word.spelled g.W.Word.in_range l.fn.text l.count l.rest

abbrev pub decreases-loop-rest : goal.decreases-loop-rest
decreases-loop-rest g l = length l.rest
