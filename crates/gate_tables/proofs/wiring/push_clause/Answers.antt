-- Why `push_clause` does what its contract says.
use Rattle.std.proofs.Common.{◌≡◌, ◌+◌, ◌++◌, ◌∷◌, [], length, arith, length-append, subst, sym}
use Rattle.sat_core.specs.Clauses.{IsClause}
use Rattle.gate_tables.specs.Gates.{lits_of}
use Rattle.gate_tables.proofs.ClauseLemmas.{fits_from, wired_clause}
use Rattle.gate_tables.proofs.wiring.push_clause.Goals as goal

pub push-requires-clause-clause : goal.push-requires-clause-clause
push-requires-clause-clause c =
    let pins = c.args.inputs.now ++ c.args.out ∷ [] in
    let fits = fits_from (length c.args.inputs.now) c.args.clause.now c.requires.clause in
    let total : length pins ≡ length c.args.inputs.now + 1 = length-append c.args.inputs.now (c.args.out ∷ []) in
    subst (IsClause c.args.formula.now.vars) (sym c.wired_lits-lits.ensures) (wired_clause c.args.formula.now.vars pins (lits_of c.args.clause.now) c.requires.pins (λ k d within. let at = fits.pins k d within in omega (arith, at, total)) fits.different)
