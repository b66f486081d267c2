-- Why `Trail::mark_read` does what its contract says.
use Rattle.std.proofs.Common.{◌<◌, length, arith, subst, sym}
use Rattle.search_trail.specs.Trails.{TrailParts}
use Rattle.search_trail.proofs.trail.Trail.mark_read.Goals as goal

pub overflow_add-self : goal.overflow_add-self
overflow_add-self c =
    let unread : c.self.inside.read < length c.self.inside.entries.items = subst (λ (t : TrailParts). t.read < length t.entries) (sym c.self.view_is) c.requires.unread in
    omega (arith, c.self.invariant.laws.few, c.self.invariant.laws.numbered)
