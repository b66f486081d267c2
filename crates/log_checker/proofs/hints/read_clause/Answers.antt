-- Why `read_clause` does what its contract says.
use Rattle.std.proofs.Common.{◌≡◌, arith, ap, sym, subst, ◌∙◌}
use Rattle.std.specs.Option.{option_to_list}
use Rattle.sat_core.specs.Clauses.{IsOver}
use Rattle.sat_core.specs.Fresh.{IsOpen}
use Rattle.sat_core.specs.Hints.{is_known}
use Rattle.log_checker.proofs.HintLemmas.{two_not_false, one_in_range, one_not_false}
use Rattle.log_checker.proofs.hints.read_clause.Goals as goal

pub returns-then-is_some-clause-outcome : goal.returns-then-is_some-clause-outcome
returns-then-is_some-clause-outcome c = two_not_false c.args.assignment.now.lits c.args.lits.now c.loop-lit.lit-index _ c.loop-lit.remaining (omega arith) c.loop-lit.invariant (sym c.is_some.ensures ∙ c.if-is_some.true) (ap (is_known c.args.assignment.now.lits) (sym c.negated.ensures) ∙ sym c.if-not-is_known.ensures)

pub is_known-requires-in-Some : goal.is_known-requires-in-Some
is_known-requires-in-Some c = one_in_range c.args.assignment.now.vars c.args.assignment.now.lits c.args.lits.now c.loop-lit.lit-index c.in-Some.lit c.requires (omega arith) (c.loop-lit.invariant ∙ ap option_to_list c.in-Some.is)

pub returns-else-is_known-clause-in_range : goal.returns-else-is_known-clause-in_range
returns-else-is_known-clause-in_range c = λ lit same.
    let in_range : IsOver c.args.assignment.now.vars c.in-Some.lit = one_in_range c.args.assignment.now.vars c.args.assignment.now.lits c.args.lits.now c.loop-lit.lit-index c.in-Some.lit c.requires (omega arith) (c.loop-lit.invariant ∙ ap option_to_list c.in-Some.is) in
    let is : c.in-Some.lit ≡ lit = cc in subst (IsOver c.args.assignment.now.vars) is in_range

pub returns-else-is_known-clause-is_open : goal.returns-else-is_known-clause-is_open
returns-else-is_known-clause-is_open c = λ lit same.
    let is : c.in-Some.lit ≡ lit = cc in
    subst (IsOpen c.args.assignment.now.lits) is (sym c.if-is_known.ensures, one_not_false c.args.assignment.now.lits c.args.lits.now c.loop-lit.lit-index c.in-Some.lit (c.loop-lit.invariant ∙ ap option_to_list c.in-Some.is))
