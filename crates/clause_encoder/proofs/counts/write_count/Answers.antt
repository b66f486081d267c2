-- Why `write_count` does what its contract says.
use Rattle.std.proofs.Common.{◌≤◌, ◌+◌, ◌-◌, ℕ, List, length, ap, subst, sym, arith, ◌∙◌}
use Rattle.std.specs.Prelude.{All, OnOk, IfErr}
use Rattle.sat_core.specs.declared.literal.Lit.{Lit}
use Rattle.sat_core.specs.Clauses.{IsOver}
use Rattle.border_counter.specs.Counter.{sum_to, counter_clauses}
use Rattle.clause_list.specs.BorderClauses.{border_lits}
use Rattle.clause_list.proofs.BorderLaws.{borders_over, length-border_lits}
use Rattle.clause_encoder.specs.Writing.{Takes, IsCause}
use Rattle.clause_encoder.proofs.counts.write_count.Goals as goal

pub take_counter-requires-clause-inputs : goal.take_counter-requires-clause-inputs
take_counter-requires-clause-inputs c = subst (All (IsOver (c.args.first - 1))) (sym (c.deref.ensures.value ∙ c.in-Ok.ensures)) (borders_over (c.args.first - 1) c.args.candidates (omega (arith, c.requires.behind)))

pub take_counter-requires-clause-variables : goal.take_counter-requires-clause-variables
take_counter-requires-clause-variables c = subst (λ n. c.args.first + sum_to n ≤ c.args.writer.now.vars + 1) (sym (ap length (c.deref.ensures.value ∙ c.in-Ok.ensures) ∙ length-border_lits c.args.candidates)) c.requires.variables

pub take_counter-requires-clause-few : goal.take_counter-requires-clause-few
take_counter-requires-clause-few c = omega (arith, ap length (c.deref.ensures.value ∙ c.in-Ok.ensures), length-border_lits c.args.candidates, c.requires.few)

pub returns-in-Ok-clause-ok : goal.returns-in-Ok-clause-ok
returns-in-Ok-clause-ok c =
    let lits = c.deref.ensures.value ∙ c.in-Ok.ensures in
    let count = ap length lits ∙ length-border_lits c.args.candidates in
    subst (λ (n : ℕ). OnOk c.take_counter.result (Takes c.args.writer.now (counter_clauses (border_lits c.args.candidates) c.args.first n) c.take_counter.new.self)) count
    (subst (λ (xs : List Lit). OnOk c.take_counter.result (Takes c.args.writer.now (counter_clauses xs c.args.first (length c.deref.result.now)) c.take_counter.new.self)) lits c.take_counter.ensures.ok)

pub returns-in-Ok-clause-err : goal.returns-in-Ok-clause-err
returns-in-Ok-clause-err c =
    let lits = c.deref.ensures.value ∙ c.in-Ok.ensures in
    let count = ap length lits ∙ length-border_lits c.args.candidates in
    subst (λ (n : ℕ). IfErr c.take_counter.result (IsCause c.args.writer.now (counter_clauses (border_lits c.args.candidates) c.args.first n))) count
    (subst (λ (xs : List Lit). IfErr c.take_counter.result (IsCause c.args.writer.now (counter_clauses xs c.args.first (length c.deref.result.now)))) lits c.take_counter.ensures.err)

pub returns-in-Err-clause-err : goal.returns-in-Err-clause-err
unfolding IsCause
returns-in-Err-clause-err c = tt
