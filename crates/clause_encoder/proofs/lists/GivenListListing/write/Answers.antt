-- Why `write` of `GivenList` does what its contract says.
use Rattle.std.proofs.Common.{sym, subst}
use Rattle.clause_list.specs.BorderClauses.{given_clauses}
use Rattle.clause_encoder.specs.Writing.{AreClauses}
use Rattle.clause_encoder.specs.TableLists.{tables_of}
use Rattle.clause_encoder.specs.Plans.{given_list, plan_list}
use Rattle.clause_encoder.proofs.WritingLemmas.{clauses_front, clauses_back, then_ok, then_err, first_err, either_way}
use Rattle.clause_encoder.proofs.lists.GivenListListing.write.Goals as goal

pub write_given-requires : goal.write_given-requires
unfolding given_list
write_given-requires g c = clauses_front c.args.writer.now.vars (given_clauses c.args.self.now.numbers.now.net c.args.self.now.layout.now) (plan_list c.args.self.now.numbers.now.gaps c.args.self.now.numbers.now.net (tables_of g.M.Moves.table c.args.self.now.inst.now c.args.self.now.tables.now) c.args.self.now.numbers.now.trains.items) c.requires.clauses

pub write_plan-requires-clause-clauses : goal.write_plan-requires-clause-clauses
unfolding given_list
write_plan-requires-clause-clauses g c = subst (λ n. AreClauses n (plan_list c.args.self.now.numbers.now.gaps c.args.self.now.numbers.now.net (tables_of g.M.Moves.table c.args.self.now.inst.now c.args.self.now.tables.now) c.args.self.now.numbers.now.trains.items)) (sym c.in-Ok.ensures.ok.vars) (clauses_back c.args.writer.now.vars (given_clauses c.args.self.now.numbers.now.net c.args.self.now.layout.now) (plan_list c.args.self.now.numbers.now.gaps c.args.self.now.numbers.now.net (tables_of g.M.Moves.table c.args.self.now.inst.now c.args.self.now.tables.now) c.args.self.now.numbers.now.trains.items) c.requires.clauses)

pub returns-in-Ok-clause-ok : goal.returns-in-Ok-clause-ok
unfolding given_list
returns-in-Ok-clause-ok g c = then_ok c.write_plan.result _ _ _ _ _ _ c.in-Ok.ensures.ok c.write_plan.ensures.ok (either_way c.args._keeps _)

pub returns-in-Ok-clause-err : goal.returns-in-Ok-clause-err
unfolding given_list
returns-in-Ok-clause-err g c = then_err c.write_plan.result _ _ _ _ _ c.in-Ok.ensures.ok c.write_plan.ensures.err (either_way c.args._keeps _)

pub returns-in-Err-clause-err : goal.returns-in-Err-clause-err
unfolding given_list
returns-in-Err-clause-err g c = first_err c.in-Err.fault _ _ _ _ c.in-Err.ensures.err (either_way c.args._keeps _)
