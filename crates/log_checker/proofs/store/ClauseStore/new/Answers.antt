-- Why `ClauseStore::new` does what its contract says.
use Rattle.std.proofs.Common.{◌≡◌, ◌++◌, ap, ◌∙◌}
use Rattle.std.proofs.lemmas.List.{append-nil}
use Rattle.log_checker.proofs.StoreLemmas.{database_of-first}
use Rattle.log_checker.proofs.store.ClauseStore.new.Goals as goal

pub returns : goal.returns
returns c =
    let all : c.args.formula.clauses ++ c.new-2.result.clauses ≡ c.args.formula.clauses = ap (λ more. c.args.formula.clauses ++ more) c.new-2.ensures.clauses ∙ append-nil c.args.formula.clauses in
    rw all (database_of-first c.args.formula.vars c.len-own.result c.new-3.result.items c.in_ok-dropped.dropped c.args.formula.clauses c.new-3.ensures.items c.len-own.ensures (c.in_ok-dropped.ensures.own ∙ c.len-own.ensures) c.in_ok-dropped.ensures.none)
