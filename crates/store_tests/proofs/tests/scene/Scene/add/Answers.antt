-- Why `Scene::add` does what its contract says.
use Rattle.std.proofs.Common.{inl, inr}
use Rattle.store_tests.proofs.SceneLemmas.{watchable}
use Rattle.store_tests.proofs.tests.scene.Scene.add.Goals as goal

pub add-requires-clause-watchable : goal.add-requires-clause-watchable
add-requires-clause-watchable g c = λ many. inl (watchable c.self.inside.trail c.self.inside.trail.vars c.args.lits.now c.is_empty.ensures c.is_watchable.ensures.clause many)

pub invariant_of-self-2 : goal.invariant_of-self-2
invariant_of-self-2 g c = c.in_ok-add.ensures.fits (inr (watchable c.self.inside.trail c.self.inside.trail.vars c.args.lits.now c.is_empty.ensures c.is_watchable.ensures.clause c.is_watchable.ensures.many))
