-- Why `settle` does what its contract says.
use Rattle.std.proofs.Common.{refl}
use Rattle.conflict_learn.proofs.CallLemmas.{place_assigned}
use Rattle.conflict_learn.proofs.learning.settle.Goals as goal

pub resolving-requires : goal.resolving-requires
resolving-requires g c = record { assigned = place_assigned (g.C.Clauses.live c.args.clauses.now) c.args.trail.now c.args.place c.args.lit c.requires.place }

pub resolve-requires-clause-resolved : goal.resolve-requires-clause-resolved
resolve-requires-clause-resolved g c = c.in-Some.ensures.resolved c.in-Some.id refl

pub keep-requires-clause-kept : goal.keep-requires-clause-kept
keep-requires-clause-kept g c = c.in-None.ensures.kept refl
