-- Why `ClauseStore::lits` does what its contract says.
use Rattle.std.proofs.Common.{◌++◌, ◌≡◌, List, ap, sym, subst, ◌∙◌}
use Rattle.std.specs.Prelude.{None, slice_get}
use Rattle.sat_core.specs.Hints.{NumberedClause, clause_of}
use Rattle.log_checker.proofs.StoreLemmas.{lookup_live, lookup_dropped, lookup_missing}
use Rattle.log_checker.proofs.store.ClauseStore.lits.Goals as goal

pub returns-in-None-clause-lookup : goal.returns-in-None-clause-lookup
returns-in-None-clause-lookup c =
    let missing = lookup_missing c.self.inside.numbers.items c.self.inside.last c.self.inside.dropped (c.self.inside.formula.clauses ++ c.self.inside.log.clauses) c.args.id c.self.invariant.numbered (rw c.as_slice.ensures.value at c.in-None.ensures.missing) in
    sym (subst (λ (live : List NumberedClause). clause_of live c.args.id ≡ None) (ap (λ database. database.live) c.self.view_is) missing)

pub returns-then-contains-clause-lookup : goal.returns-then-contains-clause-lookup
returns-then-contains-clause-lookup c =
    let gone = lookup_dropped c.self.inside.numbers.items c.self.inside.last c.self.inside.dropped (c.self.inside.formula.clauses ++ c.self.inside.log.clauses) c.args.id c.in-Some.place c.self.invariant.numbered (rw c.as_slice.ensures.value at c.in-Some.ensures.found.0) (rw c.as_slice.ensures.value at c.in-Some.ensures.found.1) (sym c.if-contains.ensures) in
    sym (subst (λ (live : List NumberedClause). clause_of live c.args.id ≡ None) (ap (λ database. database.live) c.self.view_is) gone)

pub returns-else-contains-clause-lookup : goal.returns-else-contains-clause-lookup
returns-else-contains-clause-lookup c =
    let live = lookup_live c.self.inside.numbers.items c.self.inside.last c.self.inside.dropped (c.self.inside.formula.clauses ++ c.self.inside.log.clauses) c.args.id c.in-Some.place c.self.invariant.numbered (rw c.as_slice.ensures.value at c.in-Some.ensures.found.0) (rw c.as_slice.ensures.value at c.in-Some.ensures.found.1) (sym c.if-contains.ensures) in
    sym (subst (λ (live : List NumberedClause). clause_of live c.args.id ≡ slice_get (c.self.inside.formula.clauses ++ c.self.inside.log.clauses) c.in-Some.place) (ap (λ database. database.live) c.self.view_is) live ∙ c.clause_at.ensures.lits)
