-- Why `write_border` does what its contract says.
use Rattle.vss_report.proofs.design_writer.write_border.Goals as goal

pub returns-in-None : goal.returns-in-None
returns-in-None g c = rw (← c.in-None.ensures.value) c.print_line.ensures
