-- What the loop of `collect` keeps from turn to turn.
use Rattle.std.specs.Prelude.{ℕ, ◌<◌, length}
use Rattle.conflict_learn.specs.Working.{IsListed, IsTouchedAt}
use Rattle.conflict_learn.proofs.lower.collect.Given as goal

abbrev pub invariant-loop-var : goal.invariant-loop-var
invariant-loop-var l = (k : ℕ) → k < l.end → k < length l.trail.entries → IsTouchedAt l.trail.entries l.touched l.var-index k → IsListed l.places.items k
