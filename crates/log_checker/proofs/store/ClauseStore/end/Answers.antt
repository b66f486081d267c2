-- Why `ClauseStore::end` does what its contract says.
use Rattle.std.proofs.Common.{◌++◌, subst, ap, sym, ◌∙◌}
use Rattle.sat_core.specs.Derivation.{ClauseDatabase, IsAcceptedDrop, after, drops}
use Rattle.log_checker.specs.Drops.{CanDrop}
use Rattle.log_checker.proofs.EndLemmas.{accepted_drop, only_accepted_drop, database_dropped, on_ok, on_err}
use Rattle.log_checker.proofs.store.ClauseStore.end.Goals as goal

pub returns-clause-accepted : goal.returns-clause-accepted
returns-clause-accepted c = on_ok c.drop_all.result _ _ (λ can.
    subst (λ (database : ClauseDatabase). IsAcceptedDrop database c.args.ids.now) c.self.view_is
    (accepted_drop c.self.inside.formula.vars c.self.inside.numbers.items c.self.inside.last c.self.inside.dropped (c.self.inside.formula.clauses ++ c.self.inside.log.clauses) c.args.ids.now c.self.invariant.numbered (rw c.as_slice.ensures.value at can))) c.drop_all.ensures.can

pub returns-clause-ok : goal.returns-clause-ok
returns-clause-ok c = on_ok c.drop_all.result _ _ (λ also.
    database_dropped c.self.inside.formula.vars c.self.inside.numbers.items c.self.inside.last c.self.inside.dropped c.drop_all.new.dropped (c.self.inside.formula.clauses ++ c.self.inside.log.clauses) c.args.ids.now c.self.invariant.numbered (rw c.as_slice.ensures.value at also)
    ∙ ap (λ (database : ClauseDatabase). after database (drops c.args.ids.now)) c.self.view_is) c.drop_all.ensures.drops

pub returns-clause-unknown : goal.returns-clause-unknown
returns-clause-unknown c = on_err c.drop_all.result _ _ (λ cannot accepted.
    let can : CanDrop c.self.inside.numbers.items c.self.inside.dropped c.args.ids.now = only_accepted_drop c.self.inside.formula.vars c.self.inside.numbers.items c.self.inside.last c.self.inside.dropped (c.self.inside.formula.clauses ++ c.self.inside.log.clauses) c.args.ids.now c.self.invariant.numbered (subst (λ (database : ClauseDatabase). IsAcceptedDrop database c.args.ids.now) (sym c.self.view_is) accepted) in
    cannot (rw c.as_slice.ensures.value can)) c.drop_all.ensures.cannot
