-- Why `WatchStore::add` does what its contract says.
use Rattle.std.proofs.Common.{◌≡◌, sym, subst}
use Rattle.std.specs.Prelude.{None}
use Rattle.sat_core.specs.Clauses.{IsClause}
use Rattle.sat_core.specs.Hints.{clause_of}
use Rattle.watch_store.specs.Fits.{StoreParts, FitsTrail}
use Rattle.watch_store.proofs.StoreLemmas.{parts_of, added_fits, added_forced, ok_map}
use Rattle.watch_store.proofs.store.WatchStore.add.Goals as goal

pub returns-clause-fits : goal.returns-clause-fits
returns-clause-fits c =
    let free : clause_of (parts_of c.self.inside.table c.self.inside.nodes.items).live c.args.id ≡ None = subst (λ (s : StoreParts). clause_of s.live c.args.id ≡ None) (sym c.self.view_is) c.requires.new_number in
    let fits : FitsTrail (parts_of c.self.inside.table c.self.inside.nodes.items) c.args.trail.now = subst (λ (s : StoreParts). FitsTrail s c.args.trail.now) (sym c.self.view_is) c.requires.fits in
    ok_map c.put.result _ _ _ _
    (λ table watches inserted so. added_fits c.self.inside.table c.put.new.table c.self.inside.heads.items c.put.new.heads c.self.inside.nodes.items c.put.new.nodes.items c.args.id c.args.lits.now c.pair_for-pair.result.0 c.pair_for-pair.result.1 c.args.trail.now c.self.invariant c.put.ensures.keeping free fits c.pair_for-pair.ensures.chosen (rw (← c.vars.ensures) c.pair_for-pair.ensures.idle) table watches inserted so)
    c.put.ensures.table c.put.ensures.watches c.put.ensures.live

pub returns-clause-forced : goal.returns-clause-forced
returns-clause-forced c =
    let free : clause_of (parts_of c.self.inside.table c.self.inside.nodes.items).live c.args.id ≡ None = subst (λ (s : StoreParts). clause_of s.live c.args.id ≡ None) (sym c.self.view_is) c.requires.new_number in
    let fits : FitsTrail (parts_of c.self.inside.table c.self.inside.nodes.items) c.args.trail.now = subst (λ (s : StoreParts). FitsTrail s c.args.trail.now) (sym c.self.view_is) c.requires.fits in
    let clause : IsClause c.self.inside.table.vars c.args.lits.now = subst (λ (s : StoreParts). IsClause s.vars c.args.lits.now) (sym c.self.view_is) c.requires.clause in
    ok_map c.put.result _ _ _ _
    (λ table watches inserted lit unit. added_forced c.self.inside.table c.put.new.table c.self.inside.heads.items c.put.new.heads c.self.inside.nodes.items c.put.new.nodes.items c.args.id c.args.lits.now c.pair_for-pair.result.0 c.pair_for-pair.result.1 c.args.trail.now c.self.invariant c.put.ensures.keeping free fits clause c.pair_for-pair.ensures.chosen (rw (← c.vars.ensures) c.pair_for-pair.ensures.idle) table watches inserted lit unit)
    c.put.ensures.table c.put.ensures.watches c.put.ensures.live
