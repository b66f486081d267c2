-- Why `judge` does what its contract says.
use Rattle.std.proofs.Common.{◌≡◌, List, arith, ap, sym, map, subst, refl, ◌∙◌}
use Rattle.std.specs.Prelude.{Some, All}
use Rattle.sat_core.specs.declared.literal.Lit.{Lit}
use Rattle.sat_core.specs.Clauses.{negated, IsOver}
use Rattle.sat_core.specs.Hints.{hints_fault}
use Rattle.sat_core.proofs.StepLaws.{fault_of_hints}
use Rattle.log_checker.proofs.judge.judge.Goals as goal

pub returns-in-Some-clause-fault : goal.returns-in-Some-clause-fault
returns-in-Some-clause-fault c =
    let known : c.assume_negations.new.assignment.lits ≡ map negated c.args.lits.now = c.assume_negations.ensures.known c.if-not-assume_negations.false in
    let is : hints_fault c.args.store.now.live (map negated c.args.lits.now) c.args.hints.now ≡ Some c.in-Some.fault = ap (λ (known : List Lit). hints_fault c.args.store.now.live known c.args.hints.now) (sym known) ∙ (sym c.first_fault.ensures.fault ∙ c.in-Some.is) in
    fault_of_hints c.args.store.now c.args.id c.args.lits.now c.args.hints.now c.in-Some.fault (omega arith) (record { in_range = subst (λ vars. All (IsOver vars) c.args.lits.now) c.vars.ensures (c.if-not-are_over.ensures.0 refl); no_variable_twice = c.assume_negations.ensures.exact.0 c.if-not-assume_negations.false }) is
