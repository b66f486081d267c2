-- What the loop of `segments_of` keeps from turn to turn.
use Rattle.std.proofs.Common.{◌≡◌, map, take}
use Rattle.cell_net.specs.Segments.{segment_of}
use Rattle.cell_net.proofs.segments.segments_of.Given as goal

abbrev pub invariant-loop-cell : goal.invariant-loop-cell
invariant-loop-cell l = l.segments.items ≡ map segment_of (take l.cell-index l.cell-items)
