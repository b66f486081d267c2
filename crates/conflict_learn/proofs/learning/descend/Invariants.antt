-- What the loop of `descend` keeps from turn to turn.
use Rattle.std.specs.Prelude.{◌≤◌, length}
use Rattle.conflict_learn.specs.Working.{IsWorkingOn}
use Rattle.conflict_learn.proofs.learning.descend.Given as goal

abbrev pub invariant-places : goal.invariant-places
invariant-places g l = (l.place ≤ length l.trail.entries) × IsWorkingOn (g.C.Clauses.live l.clauses) l.trail l.place l.marks l.work

abbrev pub decreases-places : goal.decreases-places
decreases-places g l = l.place
