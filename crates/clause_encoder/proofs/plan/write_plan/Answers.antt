-- Why `write_plan` does what its contract says.
use Rattle.std.proofs.Common.{sym, subst}
use Rattle.std.specs.Prelude.{OnOk, IfErr}
use Rattle.clause_encoder.specs.Writing.{AreClauses, Takes, IsCause}
use Rattle.clause_encoder.proofs.EncodeLemmas.{plan_is}
use Rattle.clause_encoder.proofs.plan.write_plan.Goals as goal

pub write_range-requires-clause-clauses : goal.write_range-requires-clause-clauses
write_range-requires-clause-clauses g c = subst (AreClauses c.args.writer.now.vars) (sym (plan_is _ _ _ _)) c.requires.clauses

pub returns-clause-ok : goal.returns-clause-ok
returns-clause-ok g c = subst (λ ys. OnOk c.write_range.result (Takes c.args.writer.now ys c.write_range.new.writer)) (plan_is _ _ _ _) c.write_range.ensures.ok

pub returns-clause-err : goal.returns-clause-err
returns-clause-err g c = subst (λ ys. IfErr c.write_range.result (IsCause c.args.writer.now ys)) (plan_is _ _ _ _) c.write_range.ensures.err
