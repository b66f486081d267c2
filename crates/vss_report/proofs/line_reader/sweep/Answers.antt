-- Why `sweep` does what its contract says.
use Rattle.std.proofs.Common.{codes}
use Rattle.vss_report.specs.Readings.{AreSweepCells, cells_line}
use Rattle.vss_report.proofs.PartLemmas.{word_missed, rest_missed}
use Rattle.vss_report.proofs.CellLemmas.{one_cell, one_fits}
use Rattle.vss_report.proofs.KindLemmas.{sweep_missed, sweep_found}
use Rattle.vss_report.proofs.line_reader.sweep.Goals as goal

pub returns-in-Err-clause-missed : goal.returns-in-Err-clause-missed
returns-in-Err-clause-missed c = sweep_missed c.args.text.now c.in-Err.miss (word_missed AreSweepCells cells_line (codes "sweep") c.args.text.now c.in-Err.miss one_cell one_fits c.in-Err.ensures.missed)

pub returns-in-Ok-test_cells-clause-found : goal.returns-in-Ok-test_cells-clause-found
returns-in-Ok-test_cells-clause-found c = sweep_found c.args.text.now c.in-Ok.rest.now c.in-Ok-test_cells.cells c.in-Ok-test_cells.rest.now c.in-Ok.ensures.found c.in-Ok-test_cells.ensures.found

pub returns-in-Err-test_cells-clause-missed : goal.returns-in-Err-test_cells-clause-missed
returns-in-Err-test_cells-clause-missed c =
    sweep_missed c.args.text.now c.in-Err-test_cells.miss (rest_missed AreSweepCells cells_line (codes "sweep") c.args.text.now c.in-Ok.rest.now c.in-Err-test_cells.miss c.in-Ok.ensures.found c.in-Err-test_cells.ensures.missed)
