-- How many of the bytes are put so far.
use Rattle.std.proofs.Common.{◌≡◌, ◌+◌, ◌%◌, ◌++◌, length}
use Rattle.vss_io.specs.Written.{HasPrinted}
use Rattle.vss_io.proofs.line_buf.LineBuf.add.Given as goal

-- all is put but what is kept and the bytes that are left
abbrev pub invariant-loop-rest : goal.invariant-loop-rest
invariant-loop-rest g l = record {
  printed : HasPrinted (g.K.Sink.shown l.initial.out) (g.K.Sink.shown l.out) (l.self ++ l.rest) (l.initial.self ++ l.bytes);
  kept : (length l.self + length l.rest) % 4096 ≡ (length l.initial.self + length l.bytes) % 4096;
}

abbrev pub decreases-loop-rest : goal.decreases-loop-rest
decreases-loop-rest g l = length l.rest
