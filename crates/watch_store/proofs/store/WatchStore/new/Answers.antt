-- Why `WatchStore::new` does what its contract says.
use Rattle.std.proofs.Common.{ap, sym, ◌∙◌, arith}
use Rattle.watch_store.specs.Places.{PlacedClauses}
use Rattle.watch_store.proofs.StoreLemmas.{IsKeeping-none, FitsTrail-empty}
use Rattle.watch_store.proofs.store.WatchStore.new.Goals as goal

pub fill-requires-clause-keeping : goal.fill-requires-clause-keeping
fill-requires-clause-keeping c = IsKeeping-none c.new-table.result c.as_mut_slice.result.now c.new-nodes.result.items c.vars-vars.result _ c.new-table.ensures (c.as_mut_slice.ensures.value ∙ c.in_ok-heads.ensures.items_if_clones_equal (λ y same. same)) (omega arith) c.new-nodes.ensures.items (omega (arith, c.if-vars.false, c.vars-vars.type_inv))

pub returns-clause-fits : goal.returns-clause-fits
returns-clause-fits c = λ t laws vars empty.
    FitsTrail-empty c.fill.new.table c.fill.new.heads c.fill.new.nodes.items t c.in_ok-fill.ensures.keeping laws
    (vars ∙ sym (c.in_ok-fill.ensures.vars ∙ (ap (λ (t : PlacedClauses). t.vars) c.new-table.ensures ∙ c.vars-vars.ensures.value))) empty
