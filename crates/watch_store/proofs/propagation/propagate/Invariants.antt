-- What the loop over the unread literals keeps.
use Rattle.std.specs.Prelude.{◌-◌}
use Rattle.watch_store.proofs.PropagationLemmas.{IsPropagating}
use Rattle.watch_store.proofs.propagation.propagate.Given as goal

abbrev pub invariant-unread : goal.invariant-unread
invariant-unread g l = IsPropagating l.table l.heads l.nodes l.initial.trail l.trail l.initial.steps l.steps

abbrev pub decreases-unread : goal.decreases-unread
decreases-unread g l = l.trail.vars - l.trail.read
