-- What the loop of `write_sweeps` keeps from turn to turn.
use Rattle.std.proofs.Common.{drop, map}
use Rattle.vss_io.specs.Written.{HasPrinted}
use Rattle.vss_report.specs.Lines.{text_of_lines}
use Rattle.vss_report.specs.Designs.{sweep_line}
use Rattle.vss_report.proofs.design_writer.write_sweeps.Given as goal

-- all is printed but the sweeps that are left
abbrev pub invariant-loop-sweep : goal.invariant-loop-sweep
invariant-loop-sweep g l = HasPrinted (g.K.Sink.shown l.initial.out) (g.K.Sink.shown l.out) (text_of_lines (map (sweep_line l.labels) (drop l.sweep-index l.sweeps))) (text_of_lines (map (sweep_line l.labels) l.sweeps))
