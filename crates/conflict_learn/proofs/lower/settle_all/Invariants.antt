-- What the loop of `settle_all` keeps from turn to turn.
use Rattle.std.specs.Prelude.{◌≡◌, ◌≤◌, length}
use Rattle.conflict_learn.specs.Working.{IsWorkingOn}
use Rattle.conflict_learn.proofs.LowerLemmas.{AreListedTo}
use Rattle.conflict_learn.proofs.lower.settle_all.Given as goal

abbrev pub invariant-places : goal.invariant-places
invariant-places g l = (l.below ≤ length l.trail.entries) × (l.left ≤ length l.places) × (l.work.unresolved ≡ 0) × AreListedTo l.trail.entries l.marks l.places l.below l.left × IsWorkingOn (g.C.Clauses.live l.clauses) l.trail l.below l.marks l.work

abbrev pub decreases-places : goal.decreases-places
decreases-places g l = l.left
