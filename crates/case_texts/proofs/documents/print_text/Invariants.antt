-- How much of the text is put so far.
use Rattle.std.proofs.Common.{length}
use Rattle.vss_io.specs.Written.{HasPrinted}
use Rattle.case_texts.proofs.documents.print_text.Given as goal

-- all is put but the rest
abbrev pub invariant-loop-rest : goal.invariant-loop-rest
invariant-loop-rest g l = HasPrinted (g.K.Sink.shown l.initial.out) (g.K.Sink.shown l.out) l.rest l.text

abbrev pub decreases-loop-rest : goal.decreases-loop-rest
decreases-loop-rest g l = length l.rest
