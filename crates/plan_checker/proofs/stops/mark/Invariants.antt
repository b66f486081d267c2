-- What the loop of `mark` keeps from turn to turn.
use Rattle.std.proofs.Common.{◌≡◌, length, take}
use Rattle.plan_checker.specs.Stations.{MarksCells}
use Rattle.plan_checker.proofs.stops.mark.Given as goal

abbrev pub invariant-loop-cell : goal.invariant-loop-cell
invariant-loop-cell l = MarksCells (take l.cell-index l.cells) l.inside × (length l.inside ≡ length l.initial.inside)
