-- Why `settle_all` does what its contract says.
use Rattle.std.proofs.Common.{arith}
use Rattle.conflict_learn.proofs.LowerLemmas.{none_between, listed_less, passes}
use Rattle.conflict_learn.proofs.lower.settle_all.Goals as goal

pub settle_at-requires-clause-passed : goal.settle_at-requires-clause-passed
settle_at-requires-clause-passed g c = none_between c.args.trail.now.entries c.args.marks.now c.args.places.now c.places.below c.places.left _ c.requires.rising (omega arith) c.places.invariant.1 c.places.invariant.3

pub places-preserved : goal.places-preserved
places-preserved g c = (
  omega (arith, c.in_ok-below.ensures.lower, c.places.invariant.0),
  omega (arith, c.places.invariant.1),
  c.in_ok-below.ensures.none,
  listed_less c.args.trail.now.entries c.args.marks.now c.args.places.now c.places.below _ c.places.left _ (omega arith) c.in_ok-below.ensures.lower c.in_ok-below.ensures.settled c.places.invariant.3,
  c.in_ok-below.ensures.working,
)

pub returns : goal.returns
returns g c = record { working = passes (g.C.Clauses.live c.args.clauses.now) c.args.trail.now 0 c.places.below c.args.marks.now c.places.work.unresolved c.places.work.level c.places.work.lits.items c.places.work.hints.items (omega arith) c.places.invariant.0 (λ k low below marked. let at = c.places.invariant.3 k below marked in omega (arith, at.1)) c.places.invariant.4 }
