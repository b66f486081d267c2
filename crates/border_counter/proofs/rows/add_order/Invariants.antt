-- What the loop of `add_order` keeps from turn to turn.
use Rattle.std.proofs.Common.{length}
use Rattle.std.specs.List.{flat_map, range_with_len}
use Rattle.border_counter.specs.Adding.{AddsAll}
use Rattle.border_counter.specs.Counter.{order_at}
use Rattle.border_counter.proofs.rows.add_order.Given as goal

abbrev pub invariant-loop-before : goal.invariant-loop-before
invariant-loop-before l = AddsAll l.initial.formula (flat_map (order_at l.first_var (length l.inputs)) (range_with_len 1 l.before)) l.formula
