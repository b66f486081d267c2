-- What the loop of `has_few_cells` keeps from turn to turn.
use Rattle.std.proofs.Common.{◌≡◌, ◌≤◌, take, sum_by}
use Rattle.discretise.specs.Rounding.{length_in_cells}
use Rattle.discretise.proofs.tracks.has_few_cells.Given as goal

abbrev pub invariant-loop-at : goal.invariant-loop-at
invariant-loop-at l = (l.total ≡ sum_by (λ x. length_in_cells l.timetable x.length_m) (take l.at l.tracks)) × (l.total ≤ 1000)
