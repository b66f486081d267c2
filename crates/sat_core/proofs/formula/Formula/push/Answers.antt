-- Why `Formula::push` does what its contract says.
use Rattle.std.proofs.Common.{◌≡◌, ◌++◌, ◌∷◌, [], length, ap, arith, subst, sym, rules}
use Rattle.sat_core.specs.Clauses.{IsClause}
use Rattle.vss_rows.proofs.PieceLaws.{length-pieces}
use Rattle.sat_core.proofs.StorageLemmas.{IsStored-push}
use Rattle.sat_core.proofs.formula.Formula.push.Goals as goal

pub invariant_of-self-2 : goal.invariant_of-self-2
invariant_of-self-2 c =
    let fresh : IsClause c.self.inside.vars c.args.lits.now = subst (λ vars. IsClause vars c.args.lits.now) (sym (ap (λ formula. formula.vars) c.self.view_is)) c.requires.clause in
    let total : c.len.result ≡ length c.extend_from_slice.new.self.items = omega arith in
    let ends : c.push_reserved.new.self.items ≡ c.self.inside.ends.items ++ length c.extend_from_slice.new.self.items ∷ [] = cc (c.push_reserved.ensures.items, c.in_ok-reserve.ensures.items) in
    IsStored-push _ _ c.self.inside.ends.items c.args.lits.now _ _ c.self.invariant fresh (omega (arith, length-pieces c.self.inside.lits.items 0 c.self.inside.ends.items, ap (λ formula. length formula.clauses) c.self.view_is)) (search rules) ends
