-- Why `write_counted` does what its contract says.
use Rattle.std.proofs.Common.{◌++◌, ap, refl}
use Rattle.border_counter.specs.Counter.{counter_clauses}
use Rattle.clause_list.specs.BorderClauses.{border_lits}
use Rattle.clause_encoder.specs.TableLists.{tables_of}
use Rattle.clause_encoder.specs.Plans.{base_list, counted_list}
use Rattle.clause_encoder.proofs.WritingLemmas.{then_ok, then_err, first_err}
use Rattle.clause_encoder.proofs.lists.write_counted.Goals as goal

pub returns-in-Ok-clause-ok : goal.returns-in-Ok-clause-ok
unfolding counted_list
returns-in-Ok-clause-ok g c = then_ok c.write_count.result _ _ _ _ _ _ c.in-Ok.ensures.ok c.write_count.ensures.ok (ap (λ n. (base_list c.args.numbers.now.gaps c.args.numbers.now.net (tables_of g.M.Moves.table c.args.inst.now c.args.tables.now) c.args.numbers.now.trains.items) ++ counter_clauses (border_lits n) c.args.numbers.now.behind n) c.candidate_count.ensures.value)

pub returns-in-Ok-clause-err : goal.returns-in-Ok-clause-err
unfolding counted_list
returns-in-Ok-clause-err g c = then_err c.write_count.result _ _ _ _ _ c.in-Ok.ensures.ok c.write_count.ensures.err (ap (λ n. (base_list c.args.numbers.now.gaps c.args.numbers.now.net (tables_of g.M.Moves.table c.args.inst.now c.args.tables.now) c.args.numbers.now.trains.items) ++ counter_clauses (border_lits n) c.args.numbers.now.behind n) c.candidate_count.ensures.value)

pub returns-in-Err-clause-err : goal.returns-in-Err-clause-err
unfolding counted_list
returns-in-Err-clause-err g c = first_err c.in-Err.fault _ _ (counter_clauses (border_lits c.args.numbers.now.net.candidates) c.args.numbers.now.behind c.args.numbers.now.net.candidates) _ c.in-Err.ensures.err refl
