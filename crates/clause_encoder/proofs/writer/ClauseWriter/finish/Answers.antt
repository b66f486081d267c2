-- Why `ClauseWriter::finish` does what its contract says.
use Rattle.std.proofs.Common.{◌≡◌, ◌*◌, ◌^◌, ◌<◌, ◌≤◌, length, arith, ap, ◌∙◌, subst, ◌++◌, ◌∷◌, []}
use Rattle.clause_encoder.proofs.WriterLemmas.{short_enough, writer_more}
use Rattle.clause_encoder.proofs.writer.ClauseWriter.finish.Goals as goal

pub overflow_add-total : goal.overflow_add-total
overflow_add-total c =
    let short : c.len.result < 2 ^ 32 = short_enough c.args.self.now.vars (c.len.result) c.args.self.now.open_lits c.requires (let e : length c.self.inside.clause.items ≡ length c.args.self.now.open_lits = ap (λ w. length w.open_lits) c.self.view_is in omega arith) (omega (arith, ap (λ w. w.vars) c.self.view_is)) in
    let few : c.self.inside.lits ≤ c.self.inside.count * 2 ^ 32 = c.self.invariant.few_lits in
    omega (arith, c.self.invariant.few, c.self.invariant.within)

pub invariant_of-self-2 : goal.invariant_of-self-2
invariant_of-self-2 c =
    writer_more _ _ _ _ _ _ _ c.args.self.now.open_lits c.self.invariant c.if-self.false (let e : length c.self.inside.clause.items ≡ length c.args.self.now.open_lits = ap (λ w. length w.open_lits) c.self.view_is in omega arith) (short_enough c.args.self.now.vars (c.len.result) c.args.self.now.open_lits c.requires (let e : length c.self.inside.clause.items ≡ length c.args.self.now.open_lits = ap (λ w. length w.open_lits) c.self.view_is in omega arith) (omega (arith, ap (λ w. w.vars) c.self.view_is))) (λ k. subst (λ lits. c.keep.new.formula.clauses ≡ c.self.inside.formula.clauses ++ lits ∷ []) (c.deref.ensures.value ∙ ap (λ w. w.open_lits) c.self.view_is) (c.in-Ok.ensures.kept k))
