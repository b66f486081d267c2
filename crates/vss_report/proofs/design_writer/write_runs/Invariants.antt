-- What the loop of `write_runs` keeps from turn to turn.
use Rattle.std.proofs.Common.{drop}
use Rattle.vss_io.specs.Written.{HasPrinted}
use Rattle.vss_report.specs.Designs.{lines_of_runs}
use Rattle.vss_report.specs.Lines.{text_of_lines}
use Rattle.vss_report.proofs.design_writer.write_runs.Given as goal

-- all is printed but the runs that are left
abbrev pub invariant-loop-place : goal.invariant-loop-place
invariant-loop-place g l = HasPrinted (g.K.Sink.shown l.initial.out) (g.K.Sink.shown l.out) (text_of_lines (lines_of_runs l.labels l.place (drop l.place l.runs))) (text_of_lines (lines_of_runs l.labels 0 l.runs))
