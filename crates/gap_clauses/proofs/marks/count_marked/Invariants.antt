-- What the loop of `count_marked` keeps from turn to turn.
use Rattle.std.specs.Prelude.{◌≡◌, ◌≤◌, length, map}
use Rattle.std.specs.List.{filter, range_with_len}
use Rattle.gap_clauses.specs.Searched.{is_marked_candidate}
use Rattle.gap_clauses.specs.Views.{candidate_of}
use Rattle.gap_clauses.proofs.marks.count_marked.Given as goal

abbrev pub invariant-loop-number : goal.invariant-loop-number
invariant-loop-number l = (l.number ≤ l.count) × (l.marked ≤ l.number) × (l.marked ≡ length (filter (is_marked_candidate l.marks) (map candidate_of (range_with_len 0 l.number))))
