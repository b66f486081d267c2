-- Why `WatchStore::compact` does what its contract says.
use Rattle.std.proofs.Common.{sym, subst, ◌∙◌, arith}
use Rattle.watch_store.specs.Fits.{StoreParts, FitsTrail}
use Rattle.watch_store.proofs.CompactLemmas.{FitsTrail-refilled}
use Rattle.watch_store.proofs.StoreLemmas.{IsKeeping-none}
use Rattle.watch_store.proofs.store.WatchStore.compact.Goals as goal

pub refill-requires-clause-keeping : goal.refill-requires-clause-keeping
refill-requires-clause-keeping c = IsKeeping-none c.new-table.result c.as_mut_slice.result.now c.new-nodes.result.items c.vars.result _ c.new-table.ensures (c.as_mut_slice.ensures.value ∙ c.in_ok-heads.ensures.items_if_clones_equal (λ y same. same)) (omega (arith, c.vars.ensures, c.vars-2.ensures)) c.new-nodes.ensures.items (omega (arith, c.vars.ensures, c.self.invariant.numbered))

pub returns-clause-fits : goal.returns-clause-fits
returns-clause-fits c = λ t fits.
    FitsTrail-refilled c.self.inside.table c.refill.new.table c.refill.new.heads c.self.inside.nodes.items c.refill.new.nodes.items t c.in_ok-refill.ensures.keeping c.in_ok-refill.ensures.vars c.in_ok-refill.ensures.live (rw c.as_slice.ensures.value at c.in_ok-refill.ensures.pairs)
    (subst (λ (s : StoreParts). FitsTrail s t) (sym c.self.view_is) fits)
