-- What the loop of `undo` keeps from turn to turn.
use Rattle.std.specs.Prelude.{◌≤◌, ◌<◌, ℕ, take, length, slice_index_or}
use Rattle.search_trail.specs.declared.entry.Entry.{Entry}
use Rattle.sat_core.specs.Marks.{AreMarked}
use Rattle.search_trail.specs.Trails.{known_of}
use Rattle.search_trail.proofs.undo.undo.Given as goal

abbrev pub invariant-loop-size : goal.invariant-loop-size
invariant-loop-size l = (l.size ≤ length l.entries) × AreMarked l.vars l.marks (known_of (take l.size l.entries)) × ((k : ℕ) (d : Entry) → l.size ≤ k → k < length l.entries → l.level < (slice_index_or l.entries k d).level)

abbrev pub decreases-loop-size : goal.decreases-loop-size
decreases-loop-size l = l.size
