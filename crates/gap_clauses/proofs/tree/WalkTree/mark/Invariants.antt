-- What the loop of `WalkTree::mark` keeps from turn to turn.
use Rattle.std.specs.Prelude.{◌≡◌, ◌<◌, ◌||◌, ℕ, false, length, slice_index_or}
use Rattle.gap_clauses.specs.Fans.{walk_at}
use Rattle.gap_clauses.specs.Spans.{IsSpanOf}
use Rattle.gap_clauses.specs.Views.{candidate_of, is_on}
use Rattle.gap_clauses.proofs.tree.WalkTree.mark.Given as goal

abbrev pub invariant-loop-at : goal.invariant-loop-at
invariant-loop-at l = (l.at < length l.self) × IsSpanOf (length l.candidates) l.marks l.span × ((k : ℕ) → k < length l.candidates → is_on l.candidates (walk_at l.self l.place) (candidate_of k) ≡ (slice_index_or l.marks k false || is_on l.candidates (walk_at l.self l.at) (candidate_of k)))

abbrev pub decreases-loop-at : goal.decreases-loop-at
decreases-loop-at l = l.at
