-- What the loop of `row_of` keeps from turn to turn.
use Rattle.std.specs.Prelude.{◌≡◌, filter}
use Rattle.clause_list.specs.Ranges.{from_below}
use Rattle.clause_list.specs.Numbers.{is_same_section}
use Rattle.clause_encoder.specs.NetworkStore.{sections_alone}
use Rattle.clause_encoder.proofs.network.row_of.Given as goal

abbrev pub invariant-loop-other : goal.invariant-loop-other
invariant-loop-other l = l.row.items ≡ filter (is_same_section (sections_alone l.sections) l.cell) (from_below 0 l.other)
