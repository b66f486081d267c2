-- What the loop of `write_steps` keeps from turn to turn.
use Rattle.std.proofs.Common.{drop, map}
use Rattle.vss_io.specs.Written.{HasPrinted}
use Rattle.vss_report.specs.Lines.{step, text_of_lines}
use Rattle.vss_report.proofs.report_writer.write_steps.Given as goal

-- all is printed but the steps that are left
abbrev pub invariant-loop-step : goal.invariant-loop-step
invariant-loop-step g l = HasPrinted (g.K.Sink.shown l.initial.out) (g.K.Sink.shown l.out) (text_of_lines (map step (drop l.step-index l.steps))) (text_of_lines (map step l.steps))
