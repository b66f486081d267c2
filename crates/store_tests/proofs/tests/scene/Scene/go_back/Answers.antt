-- Why `Scene::go_back` does what its contract says.
use Rattle.watch_store.proofs.FitLaws.{FitsTrail-cut}
use Rattle.store_tests.proofs.tests.scene.Scene.go_back.Goals as goal

pub invariant_of-self : goal.invariant_of-self
invariant_of-self g c = FitsTrail-cut c.self.inside.store c.self.inside.trail c.back_to.new.self c.args.level c.has_level.ensures c.is_trail.ensures c.back_to.ensures.vars c.back_to.ensures.cut c.back_to.ensures.read c.back_to.ensures.now c.self.invariant
