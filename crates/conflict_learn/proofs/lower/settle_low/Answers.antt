-- Why `settle_low` does what its contract says.
use Rattle.std.proofs.Common.{ℕ, sym, subst}
use Rattle.std.specs.Prelude.{All}
use Rattle.sat_core.specs.Clauses.{IsClause}
use Rattle.conflict_learn.proofs.CallLemmas.{place_assigned}
use Rattle.conflict_learn.proofs.lower.settle_low.Goals as goal

pub implied-requires-clause-over : goal.implied-requires-clause-over
implied-requires-clause-over g c = subst (λ (n : ℕ). All (λ clause. IsClause n clause.lits) (g.C.Clauses.live c.args.clauses.now)) (sym c.requires.working.long) c.requires.place.over

pub implied-requires-clause-in_range : goal.implied-requires-clause-in_range
implied-requires-clause-in_range g c = (place_assigned (g.C.Clauses.live c.args.clauses.now) c.args.trail.now c.args.place c.args.lit c.requires.place).0
