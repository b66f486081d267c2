-- Why `is_clause` does what its contract says.
use Rattle.std.proofs.Common.{arith, refl}
use Rattle.sat_core.proofs.ClauseLemmas.{clause_at, clause_more}
use Rattle.sat_core.proofs.clause.is_clause.Goals as goal

pub returns-then-not-goes_with : goal.returns-then-not-goes_with
returns-then-not-goes_with c = (λ never. absurd (cc), λ clause. c.if-not-goes_with.ensures.1 (clause_at _ c.args.lits.now c.loop-place.place _ (omega arith) clause))

pub loop-place-preserved : goal.loop-place-preserved
loop-place-preserved c = clause_more _ c.args.lits.now c.loop-place.place _ (omega arith) c.loop-place.invariant (c.if-not-goes_with.ensures.0 refl)
