-- What the loop of `marked_items` keeps from turn to turn.
use Rattle.std.specs.Prelude.{◌≡◌, filter}
use Rattle.clause_list.specs.Ranges.{from_below}
use Rattle.clause_list.specs.Cones.{is_in_both}
use Rattle.clause_encoder.proofs.gather.marked_items.Given as goal

abbrev pub invariant-loop-item : goal.invariant-loop-item
invariant-loop-item l = l.items.items ≡ filter (is_in_both l.one l.other) (from_below 0 l.item)
