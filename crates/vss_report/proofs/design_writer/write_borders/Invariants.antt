-- What the loop of `write_borders` keeps from turn to turn.
use Rattle.std.proofs.Common.{drop, map}
use Rattle.vss_io.specs.Written.{HasPrinted}
use Rattle.vss_report.specs.Lines.{text_of_lines}
use Rattle.vss_report.specs.Outcomes.{border_line}
use Rattle.vss_report.proofs.design_writer.write_borders.Given as goal

-- all is printed but the borders that are left
abbrev pub invariant-loop-border : goal.invariant-loop-border
invariant-loop-border g l = HasPrinted (g.K.Sink.shown l.initial.out) (g.K.Sink.shown l.out) (text_of_lines (map (border_line l.labels) (drop l.border-index l.borders))) (text_of_lines (map (border_line l.labels) l.borders))
