-- Why `add_cell` does what its contract says.
use Rattle.std.proofs.Common.{◌++◌, ap}
use Rattle.vss_report.proofs.ReportTexts.{kept_same, cell_pieces}
use Rattle.vss_report.proofs.design_writer.add_cell.Goals as goal

pub returns : goal.returns
returns g c = kept_same _ _ _ _ _ _ (ap (λ t. c.args.text.now ++ t) (cell_pieces c.name_cell-named.result _ c.name_cell-named.ensures)) c.add_named.ensures
