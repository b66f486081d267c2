-- Why `WatchStore::discard` does what its contract says.
use Rattle.std.proofs.Common.{◌≡◌, ℕ, List, ap, sym, subst, ◌∙◌}
use Rattle.std.specs.Prelude.{nat_eq, not, filter, None}
use Rattle.std.proofs.lemmas.List.{with_items_is}
use Rattle.sat_core.specs.Hints.{NumberedClause, clause_of}
use Rattle.watch_store.specs.declared.node.Node.{Node}
use Rattle.watch_store.specs.Places.{PlacedClauses, live_in}
use Rattle.watch_store.specs.Fits.{StoreParts, FitsTrail}
use Rattle.watch_store.proofs.PlaceLemmas.{unplaced_clause, live_without}
use Rattle.watch_store.proofs.StoreLemmas.{parts_of, FitsTrail-less}
use Rattle.watch_store.proofs.store.WatchStore.discard.Goals as goal

pub unreachable-requires : goal.unreachable-requires
unreachable-requires c = c.requires.live (subst (λ (s : StoreParts). clause_of s.live c.args.id ≡ None) c.self.view_is (unplaced_clause c.self.inside.table c.args.id c.in-None.ensures.value))

pub returns-clause-live : goal.returns-clause-live
returns-clause-live c =
    let table : PlacedClauses = c.self.inside.table in
    let number : ℕ = c.args.id.0 in
    rw (c.end.ensures.table) (live_without table c.in-Some.place
    ∙ (ap (λ (n : ℕ). filter (λ (x : NumberedClause). not (nat_eq x.id.0 n)) (live_in table)) (c.in-Some.ensures.laws.numbered number c.in-Some.place c.in-Some.ensures.value)
    ∙ ap (λ (s : StoreParts). filter (λ (x : NumberedClause). not (nat_eq x.id.0 number)) s.live) c.self.view_is))

pub returns-clause-fits : goal.returns-clause-fits
returns-clause-fits c = λ t fits none.
    let table : PlacedClauses = c.self.inside.table in
    let nodes : List Node = c.self.inside.nodes.items in
    let number = c.in-Some.ensures.laws.numbered c.args.id.0 c.in-Some.place c.in-Some.ensures.value in
    subst (λ (ns : List Node). FitsTrail (parts_of c.end.new.table ns) t) (sym (with_items_is c.self.inside.nodes c.end.new.nodes (c.end.auto.nodes ∙ c.as_mut_slice-in-Some.ensures.len)))
    (subst (λ (tb : PlacedClauses). FitsTrail (parts_of tb c.end.new.nodes) t) (sym c.end.ensures.table)
    (FitsTrail-less table c.self.inside.heads.items c.end.new.heads nodes c.end.new.nodes c.in-Some.place c.args.id t c.self.invariant (rw c.end.ensures.table at c.end.ensures.keeping) (rw c.as_mut_slice-in-Some.ensures.value at c.end.ensures.watches) number none
    (subst (λ (s : StoreParts). FitsTrail s t) (sym c.self.view_is) fits)))
