-- Why `WatchStore::propagate` does what its contract says.
use Rattle.std.proofs.Common.{List, sym, subst, ◌∙◌, arith}
use Rattle.std.specs.Prelude.{IfNone}
use Rattle.std.proofs.lemmas.List.{with_items_is}
use Rattle.sat_core.specs.Fresh.{IsClosed}
use Rattle.search_trail.specs.Trails.{known_of}
use Rattle.watch_store.specs.declared.node.Node.{Node}
use Rattle.watch_store.specs.Fits.{StoreParts, FitsTrail, AreShortTrue}
use Rattle.watch_store.proofs.FitLaws.{closed_read}
use Rattle.watch_store.proofs.StoreLemmas.{parts_of, IsStore-of, FitsTrail-of, none_map}
use Rattle.watch_store.proofs.store.WatchStore.propagate.Goals as goal

pub propagate-requires : goal.propagate-requires
propagate-requires g c = rw (c.as_mut_slice.ensures.value, c.as_mut_slice-2.ensures.value) (IsStore-of c.self.inside.table c.self.inside.heads.items c.self.inside.nodes.items c.args.trail.now c.self.invariant (subst (λ (s : StoreParts). FitsTrail s c.args.trail.now) (sym c.self.view_is) c.requires.fits))

pub returns-clause-fits : goal.returns-clause-fits
returns-clause-fits g c =
    subst (λ (ns : List Node). FitsTrail (parts_of c.self.inside.table ns) c.propagate.new.trail) (sym (with_items_is c.self.inside.nodes c.propagate.new.nodes (c.propagate.auto.nodes ∙ c.as_mut_slice-2.ensures.len)))
    (FitsTrail-of c.self.inside.table c.propagate.new.heads c.propagate.new.nodes c.propagate.new.trail c.propagate.ensures.store)

pub returns-clause-closed : goal.returns-clause-closed
returns-clause-closed g c =
    subst (λ (s : StoreParts). IfNone c.propagate.result (AreShortTrue s.live c.propagate.new.trail → IsClosed (known_of c.propagate.new.trail.entries) s.live)) c.self.view_is
    (none_map c.propagate.result _ _ (λ read short. closed_read (parts_of c.self.inside.table c.propagate.new.nodes) c.propagate.new.trail (omega (arith, read)) short (FitsTrail-of c.self.inside.table c.propagate.new.heads c.propagate.new.nodes c.propagate.new.trail c.propagate.ensures.store)) c.propagate.ensures.all_read)
