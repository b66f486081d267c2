-- Why `ClauseWriter::take` does what its contract says.
use Rattle.std.proofs.Common.{◌*◌, ◌^◌, ◌<◌, ◌≤◌, length, arith, refl, ap}
use Rattle.clause_encoder.proofs.WriterLemmas.{short_enough, writer_more}
use Rattle.clause_encoder.proofs.writer.ClauseWriter.take.Goals as goal

pub overflow_add-total : goal.overflow_add-total
overflow_add-total c =
    let short : length c.args.lits.now < 2 ^ 32 = short_enough c.args.self.now.vars (length c.args.lits.now) c.args.lits.now c.requires refl (omega (arith, ap (λ w. w.vars) c.self.view_is)) in
    let few : c.self.inside.lits ≤ c.self.inside.count * 2 ^ 32 = c.self.invariant.few_lits in
    omega (arith, c.self.invariant.few, c.self.invariant.within)

pub invariant_of-self-2 : goal.invariant_of-self-2
invariant_of-self-2 c =
    writer_more _ _ _ _ _ _ _ c.args.lits.now c.self.invariant c.if-self.false refl (short_enough c.args.self.now.vars (length c.args.lits.now) c.args.lits.now c.requires refl (omega (arith, ap (λ w. w.vars) c.self.view_is))) (c.in-Ok.ensures.kept)
