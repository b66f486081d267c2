-- Why `write_base` does what its contract says.
use Rattle.std.proofs.Common.{sym, subst, refl}
use Rattle.clause_list.specs.BorderClauses.{kept_clauses}
use Rattle.clause_encoder.specs.Writing.{AreClauses}
use Rattle.clause_encoder.specs.TableLists.{tables_of}
use Rattle.clause_encoder.specs.Plans.{base_list, plan_list}
use Rattle.clause_encoder.proofs.WritingLemmas.{clauses_front, clauses_back, then_ok, then_err, first_err}
use Rattle.clause_encoder.proofs.lists.write_base.Goals as goal

pub write_kept-requires-clause-clauses : goal.write_kept-requires-clause-clauses
unfolding base_list
write_kept-requires-clause-clauses g c = clauses_front c.args.writer.now.vars (kept_clauses c.args.numbers.now.net) (plan_list c.args.numbers.now.gaps c.args.numbers.now.net (tables_of g.M.Moves.table c.args.inst.now c.args.tables.now) c.args.numbers.now.trains.items) c.requires.fits.clauses

pub write_plan-requires-clause-clauses : goal.write_plan-requires-clause-clauses
unfolding base_list
write_plan-requires-clause-clauses g c = subst (λ n. AreClauses n (plan_list c.args.numbers.now.gaps c.args.numbers.now.net (tables_of g.M.Moves.table c.args.inst.now c.args.tables.now) c.args.numbers.now.trains.items)) (sym c.in-Ok.ensures.ok.vars) (clauses_back c.args.writer.now.vars (kept_clauses c.args.numbers.now.net) (plan_list c.args.numbers.now.gaps c.args.numbers.now.net (tables_of g.M.Moves.table c.args.inst.now c.args.tables.now) c.args.numbers.now.trains.items) c.requires.fits.clauses)

pub returns-in-Ok-clause-ok : goal.returns-in-Ok-clause-ok
unfolding base_list
returns-in-Ok-clause-ok g c = then_ok c.write_plan.result _ _ _ _ _ _ c.in-Ok.ensures.ok c.write_plan.ensures.ok refl

pub returns-in-Ok-clause-err : goal.returns-in-Ok-clause-err
unfolding base_list
returns-in-Ok-clause-err g c = then_err c.write_plan.result _ _ _ _ _ c.in-Ok.ensures.ok c.write_plan.ensures.err refl

pub returns-in-Err-clause-err : goal.returns-in-Err-clause-err
unfolding base_list
returns-in-Err-clause-err g c = first_err c.in-Err.fault _ _ (plan_list c.args.numbers.now.gaps c.args.numbers.now.net (tables_of g.M.Moves.table c.args.inst.now c.args.tables.now) c.args.numbers.now.trains.items) _ c.in-Err.ensures.err refl
