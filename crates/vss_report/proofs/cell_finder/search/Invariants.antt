-- No cell before the place has that name.
use Rattle.std.proofs.Common.{◌<◌, ℕ}
use Rattle.vss_report.specs.Found.{name_of_cell, cell_at}
use Rattle.vss_report.specs.Names.{IsNamedCell}
use Rattle.vss_report.proofs.cell_finder.search.Given as goal

abbrev pub invariant-loop-place : goal.invariant-loop-place
invariant-loop-place l = (place : ℕ) → place < l.place → ¬ IsNamedCell l.scene.labels (name_of_cell l.cell) (cell_at place l.cell)
