-- Why `Formula::satisfied_by` does what its contract says.
use Rattle.std.proofs.Common.{◌≡◌, length, ap, sym, ◌∙◌}
use Rattle.sat_core.proofs.formula.Formula.satisfied_by.Goals as goal

pub are_satisfied-requires-clause-clauses : goal.are_satisfied-requires-clause-clauses
are_satisfied-requires-clause-clauses c =
    let vars : length c.as_slice.result.now ≡ c.self.inside.vars = ap length c.as_slice.ensures ∙ (c.requires ∙ sym (ap (λ formula. formula.vars) c.self.view_is)) in
    rw (vars, c.as_slice-2.ensures.value, c.as_slice-3.ensures.value) c.self.invariant.clauses
