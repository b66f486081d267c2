-- Why `cell` does what its contract says.
use Rattle.vss_report.proofs.CellLemmas.{no_track, short_number, no_number}
use Rattle.vss_report.proofs.cells.cell.Goals as goal

pub returns-in-Err-clause-missed : goal.returns-in-Err-clause-missed
returns-in-Err-clause-missed c = no_track c.args.text.now c.in-Err.miss c.in-Err.ensures.missed

pub returns-in-Err-Short-clause-missed : goal.returns-in-Err-Short-clause-missed
returns-in-Err-Short-clause-missed c = short_number c.args.text.now c.in-Ok.found.0.now c.in-Ok.found.1.now c.in-Ok.ensures.fits c.in-Ok.ensures.found (rw c.in-Err-Short.field-0-is at c.in-Err-Short.ensures.missed)

pub returns-in-Err-number-clause-missed : goal.returns-in-Err-number-clause-missed
returns-in-Err-number-clause-missed c = no_number c.args.text.now c.in-Ok.found.0.now c.in-Ok.found.1.now c.in-Err-number.miss c.in-Ok.ensures.fits c.in-Ok.ensures.found (rw c.in-Err-Wrong.field-0-is at c.in-Err-Wrong.ensures.missed) c.in-Err-number.ensures.missed
