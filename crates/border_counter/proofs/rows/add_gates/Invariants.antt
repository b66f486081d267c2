-- What the loop of `add_gates` keeps from turn to turn.
use Rattle.std.specs.List.{flat_map, range_with_len}
use Rattle.border_counter.specs.Adding.{AddsAll}
use Rattle.border_counter.specs.Counter.{row_clauses}
use Rattle.border_counter.proofs.rows.add_gates.Given as goal

abbrev pub invariant-loop-before : goal.invariant-loop-before
invariant-loop-before l = AddsAll l.initial.formula (flat_map (row_clauses l.inputs l.first_var) (range_with_len 1 l.before)) l.formula
