-- How far a line of pieces is printed.
use Rattle.std.proofs.Common.{◌++◌, drop}
use Rattle.vss_io.specs.Line.{line, joined}
use Rattle.vss_io.specs.Written.{HasPrinted}
use Rattle.vss_io.proofs.line_buf.print_line.Given as goal

-- all is printed but what is kept and the pieces that are left
abbrev pub invariant-loop-piece : goal.invariant-loop-piece
invariant-loop-piece g l = HasPrinted (g.K.Sink.shown l.initial.out) (g.K.Sink.shown l.out) (l.text ++ line (joined (drop l.piece-index l.pieces))) (line (joined l.pieces))
