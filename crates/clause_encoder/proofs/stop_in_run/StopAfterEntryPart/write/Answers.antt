-- Why `write` of `StopAfterEntry` does what its contract says.
use Rattle.std.proofs.Common.{sym, subst}
use Rattle.std.specs.Prelude.{OnOk, IfErr}
use Rattle.clause_encoder.specs.Writing.{AreClauses, Takes, IsCause}
use Rattle.clause_encoder.proofs.StopLemmas.{entered_range}
use Rattle.clause_encoder.proofs.stop_in_run.StopAfterEntryPart.write.Goals as goal

pub write_range-requires-clause-clauses : goal.write_range-requires-clause-clauses
write_range-requires-clause-clauses c = subst (AreClauses c.args.writer.now.vars) (sym (entered_range c.args.self.now.train.now c.args.stop _ _ c.first_beginning_of.ensures c.end_of_beginnings_of.ensures)) c.requires.clauses

pub returns-clause-ok : goal.returns-clause-ok
returns-clause-ok c = subst (λ ys. OnOk c.write_range.result (Takes c.args.writer.now ys c.write_range.new.writer)) (entered_range c.args.self.now.train.now c.args.stop _ _ c.first_beginning_of.ensures c.end_of_beginnings_of.ensures) c.write_range.ensures.ok

pub returns-clause-err : goal.returns-clause-err
returns-clause-err c = subst (λ ys. IfErr c.write_range.result (IsCause c.args.writer.now ys)) (entered_range c.args.self.now.train.now c.args.stop _ _ c.first_beginning_of.ensures c.end_of_beginnings_of.ensures) c.write_range.ensures.err
