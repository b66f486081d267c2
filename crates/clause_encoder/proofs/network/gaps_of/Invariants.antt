-- What the loop of `gaps_of` keeps from turn to turn.
use Rattle.std.specs.Prelude.{◌≡◌, map, []}
use Rattle.clause_list.specs.Ranges.{from_below}
use Rattle.clause_list.specs.Orders.{first_gap}
use Rattle.clause_encoder.proofs.network.gaps_of.Given as goal

abbrev pub invariant-loop-cell : goal.invariant-loop-cell
invariant-loop-cell l = (l.gaps.items ≡ map (first_gap (record { sections = l.sections; candidates = l.candidates; kept = [] })) (from_below 0 l.cell)) × (l.next ≡ first_gap (record { sections = l.sections; candidates = l.candidates; kept = [] }) l.cell)
