-- What the loop of `add_pieces` keeps from turn to turn.
use Rattle.std.proofs.Common.{◌++◌, drop}
use Rattle.vss_io.specs.Line.{joined}
use Rattle.vss_io.specs.Written.{HasPrinted}
use Rattle.vss_report.proofs.design_writer.add_pieces.Given as goal

-- all is printed but what is kept and the pieces that are left
abbrev pub invariant-loop-piece : goal.invariant-loop-piece
invariant-loop-piece g l = HasPrinted (g.K.Sink.shown l.initial.out) (g.K.Sink.shown l.out) (l.text ++ joined (drop l.piece-index l.pieces)) (l.initial.text ++ joined l.pieces)
