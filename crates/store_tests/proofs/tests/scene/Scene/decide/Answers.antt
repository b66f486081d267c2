-- Why `Scene::decide` does what its contract says.
use Rattle.std.proofs.Common.{sym, subst}
use Rattle.watch_store.specs.Fits.{FitsTrail}
use Rattle.watch_store.proofs.FitLaws.{FitsTrail-decide}
use Rattle.store_tests.proofs.tests.scene.Scene.decide.Goals as goal

pub propagate-requires : goal.propagate-requires
propagate-requires g c = record { fits = subst (FitsTrail c.self.inside.store) (sym c.decide.ensures.one_more) (FitsTrail-decide c.self.inside.store c.self.inside.trail c.args.lit c.is_read.ensures c.is_open.ensures.over c.is_open.ensures.open c.self.invariant) }
