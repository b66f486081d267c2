-- What the loop of `are_within_limits` keeps from turn to turn.
use Rattle.std.specs.List.{AllWithin}
use Rattle.cell_net.specs.Runs.{IsWithinLimit}
use Rattle.layout_rules.proofs.sweeps.are_within_limits.Given as goal

abbrev pub invariant-loop-directed : goal.invariant-loop-directed
invariant-loop-directed l = AllWithin (IsWithinLimit l.inst l.train l.count) l.cells 0 l.directed-index
