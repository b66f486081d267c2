-- Why `encode_free` does what its contract says.
use Rattle.std.proofs.Common.{◌≡◌, ◌∙◌, ◌+◌, ◌-◌, length, ap, sym, refl, arith}
use Rattle.border_counter.specs.Counter.{sum_to}
use Rattle.clause_list.specs.BorderClauses.{most_clauses}
use Rattle.clause_list.specs.Coding.{first_of_count}
use Rattle.clause_encoder.specs.declared.task.Task.TheVariants.{Free}
use Rattle.clause_encoder.specs.TableLists.{tables_of}
use Rattle.clause_encoder.specs.Encoding.{sized_clauses}
use Rattle.clause_encoder.proofs.EncodeLemmas.{counted_is, size_refused}
use Rattle.clause_encoder.proofs.EncodingLemmas.{free_encoding, order_fits, order_few}
use Rattle.clause_encoder.proofs.encoder.encode_free.Goals as goal

pub returns-then-vars-gt-VARIABLES-clause-err : goal.returns-then-vars-gt-VARIABLES-clause-err
returns-then-vars-gt-VARIABLES-clause-err g c =
    let total : c.counter_variables-count.result ≡ sum_to (length c.args.inst.now.candidates) = c.counter_variables-count.ensures.value ∙ ap sum_to c.candidate_count-candidates.ensures.value in
    let end : c.args.numbers.behind ≡ first_of_count c.args.inst.now (tables_of g.M.Moves.table c.args.inst.now c.args.tables.now) = c.requires.numbers.behind_is in
    (c.requires.numbers.few_walks, omega (arith, total, end))

pub free_formula-requires-clause-variables : goal.free_formula-requires-clause-variables
free_formula-requires-clause-variables g c =
    let total : c.counter_variables-count.result ≡ sum_to (length c.args.inst.now.candidates) = c.counter_variables-count.ensures.value ∙ ap sum_to c.candidate_count-candidates.ensures.value in
    omega (arith, total, c.requires.numbers.after)

pub before_order_of-before_order-requires : goal.before_order_of-before_order-requires
before_order_of-before_order-requires g c = order_fits _ _ _ _ _ _ _ _ c.in-Ok.ensures.clauses (c.candidate_count-candidates.ensures.value ∙ sym (ap (λ n. n.candidates) c.requires.numbers.net_is))

pub invariant_of-result : goal.invariant_of-result
invariant_of-result g c = record {
  few_candidates = c.candidate_count-candidates.ensures.few;
  few_variables = λ counts. c.requires.numbers.few;
  few_clauses = λ counts. order_few _ _ _ _ _ _ _ _ _ c.in-Ok.ensures.clauses (c.candidate_count-candidates.ensures.value ∙ sym (ap (λ n. n.candidates) c.requires.numbers.net_is)) c.in-Ok.ensures.few c.before_order_of-before_order.ensures;
}

pub returns-in-Ok-clause-ok : goal.returns-in-Ok-clause-ok
returns-in-Ok-clause-ok g c =
    let total : c.counter_variables-count.result ≡ sum_to (length c.args.inst.now.candidates) = c.counter_variables-count.ensures.value ∙ ap sum_to c.candidate_count-candidates.ensures.value in
    free_encoding c.args.inst.now (tables_of g.M.Moves.table c.args.inst.now c.args.tables.now) c.args.numbers.net c.args.numbers.gaps c.args.numbers.trains.items c.args.numbers.behind c.args.bound (c.args.numbers.behind - 1 + c.counter_variables-count.result) _ _ c.requires.numbers
    (ap (λ n. c.args.numbers.behind - 1 + n) total) (omega arith) c.in-Ok.ensures.vars c.in-Ok.ensures.clauses c.in-Ok.ensures.few
    c.candidate_count-candidates.ensures.value refl refl refl
    (c.before_order_of-before_order.ensures ∙ ap (λ n. length c.in-Ok.formula.clauses - length (most_clauses 0 n c.args.bound) - (n - 1)) c.candidate_count-candidates.ensures.value)

pub returns-in-Err-clause-err : goal.returns-in-Err-clause-err
returns-in-Err-clause-err g c =
    let total : c.counter_variables-count.result ≡ sum_to (length c.args.inst.now.candidates) = c.counter_variables-count.ensures.value ∙ ap sum_to c.candidate_count-candidates.ensures.value in
    let end : c.args.numbers.behind ≡ first_of_count c.args.inst.now (tables_of g.M.Moves.table c.args.inst.now c.args.tables.now) = c.requires.numbers.behind_is in
    size_refused c.in-Err.refusal c.args.inst.now _ (sized_clauses c.args.inst.now (tables_of g.M.Moves.table c.args.inst.now c.args.tables.now) Free) 1 c.args.numbers.gaps _ c.requires.numbers.gaps_are c.requires.numbers.few_walks
    (omega (arith, total, end))
    (counted_is c.args.inst.now (tables_of g.M.Moves.table c.args.inst.now c.args.tables.now) c.args.numbers.net c.args.numbers.gaps c.args.numbers.trains.items c.args.numbers.behind c.requires.numbers)
    c.in-Err.ensures.refusal
