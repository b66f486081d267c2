-- What the loop of `add_cells` keeps from turn to turn.
use Rattle.std.proofs.Common.{◌++◌, drop, map}
use Rattle.std.specs.List.{flat_map}
use Rattle.vss_io.specs.Written.{HasPrinted}
use Rattle.vss_report.specs.Lines.{spaced}
use Rattle.vss_report.specs.Names.{cell_named}
use Rattle.vss_report.proofs.design_writer.add_cells.Given as goal

-- all is printed but what is kept and the cells that are left
abbrev pub invariant-loop-cell : goal.invariant-loop-cell
invariant-loop-cell g l =
    HasPrinted (g.K.Sink.shown l.initial.out) (g.K.Sink.shown l.out) (l.text ++ flat_map spaced (map (cell_named l.labels) (drop l.cell-index l.cells))) (l.initial.text ++ flat_map spaced (map (cell_named l.labels) l.cells))
