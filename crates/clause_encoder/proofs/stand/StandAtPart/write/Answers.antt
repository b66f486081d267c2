-- Why `write` of `StandAt` does what its contract says.
use Rattle.std.proofs.Common.{sym, subst}
use Rattle.std.specs.Prelude.{OnOk, IfErr}
use Rattle.clause_encoder.specs.Writing.{AreClauses, Takes, IsCause}
use Rattle.clause_encoder.proofs.StopLemmas.{stand_each}
use Rattle.clause_encoder.proofs.stand.StandAtPart.write.Goals as goal

pub write_each-requires-clause-clauses : goal.write_each-requires-clause-clauses
write_each-requires-clause-clauses g c = subst (AreClauses c.args.writer.now.vars) (sym (stand_each _ c.args.self.now.train.now c.args.self.now.place c.args.self.now.from c.args.step _ c.cone.ensures.value)) c.requires.clauses

pub returns-clause-ok : goal.returns-clause-ok
returns-clause-ok g c = subst (λ ys. OnOk c.write_each.result (Takes c.args.writer.now ys c.write_each.new.writer)) (stand_each _ c.args.self.now.train.now c.args.self.now.place c.args.self.now.from c.args.step _ c.cone.ensures.value) c.write_each.ensures.ok

pub returns-clause-err : goal.returns-clause-err
returns-clause-err g c = subst (λ ys. IfErr c.write_each.result (IsCause c.args.writer.now ys)) (stand_each _ c.args.self.now.train.now c.args.self.now.place c.args.self.now.from c.args.step _ c.cone.ensures.value) c.write_each.ensures.err
