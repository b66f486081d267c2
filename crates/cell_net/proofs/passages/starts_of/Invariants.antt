-- What the loop of `starts_of` keeps from turn to turn.
use Rattle.std.proofs.Common.{◌≡◌, length}
use Rattle.cell_net.specs.Passages.{AreStarts}
use Rattle.cell_net.proofs.passages.starts_of.Given as goal

abbrev pub invariant-loop-end : goal.invariant-loop-end
invariant-loop-end l = AreStarts l.passages l.starts.items × (length l.starts.items ≡ l.end)
