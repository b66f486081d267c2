-- What the loop of `are_inside` keeps from turn to turn.
use Rattle.std.specs.List.{AllWithin}
use Rattle.cell_net.specs.Runs.{IsCellOf}
use Rattle.cell_net.specs.declared.cells.DirCell.{DirCell}
use Rattle.plan_checker.proofs.stops.are_inside.Given as goal

abbrev pub invariant-loop-directed : goal.invariant-loop-directed
invariant-loop-directed l = AllWithin (λ (d : DirCell). IsCellOf l.inst l.stop.station d.cell) l.cells 0 l.directed-index
