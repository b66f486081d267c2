-- Why `discard_all` does what its contract says.
use Rattle.watch_solver.proofs.DropLemmas.{gone_none, gone_live, gone_more}
use Rattle.watch_solver.proofs.dropping.discard_all.Goals as goal

pub ids-init : goal.ids-init
ids-init c = gone_none c.args.store.now c.args.trail.now c.requires.fits

pub discard-requires : goal.discard-requires
discard-requires c = record { live = gone_live c.args.store.now c.ids.store c.args.trail.now c.args.ids.now c.requires.go.0 c.ids.id-index _ c.requires.go.1 c.ids-test.true c.ids.invariant }

pub ids-preserved : goal.ids-preserved
ids-preserved c = gone_more c.args.store.now c.ids.store c.discard.new.self c.args.trail.now c.args.ids.now c.requires.go.0 c.ids.id-index _ c.requires.go.1 c.ids-test.true c.discard.ensures.vars c.discard.ensures.live c.discard.ensures.fits c.ids.invariant
