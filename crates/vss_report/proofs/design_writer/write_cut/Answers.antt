-- Why `write_cut` does what its contract says.
use Rattle.vss_report.proofs.design_writer.write_cut.Goals as goal

pub returns : goal.returns
returns g c = rw (c.as_bytes-at_m.ensures.value, c.format.ensures.text) at c.print_line.ensures
