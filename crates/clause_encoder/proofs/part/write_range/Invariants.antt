-- What the loop of `write_range` keeps from turn to turn.
use Rattle.std.specs.Prelude.{◌≡◌, ◌≤◌, ◌⊎◌}
use Rattle.std.specs.List.{flat_map}
use Rattle.clause_list.specs.Ranges.{from_below}
use Rattle.clause_encoder.specs.Writing.{Takes}
use Rattle.clause_encoder.proofs.part.write_range.Given as goal

abbrev pub invariant-loop-number : goal.invariant-loop-number
invariant-loop-number g l = Takes l.fn.writer (flat_map (g.P.Part.clauses l.part) (from_below l.from l.number)) l.writer × ((l.number ≤ l.end) ⊎ (l.number ≡ l.from))
