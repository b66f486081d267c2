-- Why `Formula::clause` does what its contract says.
use Rattle.std.proofs.Common.{◌≡◌, ◌-◌, ◌<◌, [], length, get_or, ap, arith, subst}
use Rattle.sat_core.specs.Clauses.{IsClause}
use Rattle.vss_rows.specs.Pieces.{pieces}
use Rattle.sat_core.proofs.formula.Formula.clause.Goals as goal

pub returns-clause-clause : goal.returns-clause-clause
returns-clause-clause c =
    let item : get_or (pieces c.self.inside.lits.items 0 c.self.inside.ends.items) (c.args.id.0 - 1) [] ≡ c.piece.result.now = rw (c.as_slice.ensures.value, c.as_slice-2.ensures.value) at (c.piece.ensures.item []) in
    let within : c.args.id.0 - 1 < length (pieces c.self.inside.lits.items 0 c.self.inside.ends.items) = omega (arith, ap (λ formula. length formula.clauses) c.self.view_is) in
    subst (λ vars. IsClause vars c.piece.result.now) (ap (λ formula. formula.vars) c.self.view_is) (subst (IsClause c.self.inside.vars) item (c.self.invariant.clauses (c.args.id.0 - 1) [] within))
