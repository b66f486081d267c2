-- What the loop of `add_list` keeps from turn to turn.
use Rattle.std.proofs.Common.{◌++◌, drop}
use Rattle.vss_io.specs.Written.{HasPrinted}
use Rattle.derivation_log.specs.Text.{list_text}
use Rattle.derivation_log.proofs.write.add_list.Given as goal

-- all is printed but what is kept and the words that are left
abbrev pub invariant-loop-word : goal.invariant-loop-word
invariant-loop-word g l = HasPrinted (g.K.Sink.shown l.initial.out) (g.K.Sink.shown l.out) (l.text ++ list_text g.W.Word.spelled (drop l.word-index l.words)) (l.initial.text ++ list_text g.W.Word.spelled l.words)
