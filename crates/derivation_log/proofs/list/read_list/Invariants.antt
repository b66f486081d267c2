-- What the loop of `read_list` keeps from turn to turn.
use Rattle.derivation_log.proofs.ListLemmas.{IsPartlyRead}
use Rattle.derivation_log.proofs.list.read_list.Given as goal

-- so many words are read, and the text is left of the others
abbrev pub invariant-loop : goal.invariant-loop
invariant-loop g l = IsPartlyRead g.W.Word.spelled g.W.Word.in_range g.met.W.Word.no_zero g.met.W.Word.one_reading l.list l.words.items l.rest l.counter
