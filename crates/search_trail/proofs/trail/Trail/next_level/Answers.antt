-- Why `Trail::next_level` does what its contract says.
use Rattle.std.proofs.Common.{arith, subst, sym}
use Rattle.sat_core.specs.Clauses.{IsOver}
use Rattle.sat_core.specs.Fresh.{IsOpen}
use Rattle.search_trail.specs.Trails.{TrailParts, known_of}
use Rattle.search_trail.proofs.TrailLaws.{now_low, room_for}
use Rattle.search_trail.proofs.trail.Trail.next_level.Goals as goal

pub overflow_add-result : goal.overflow_add-result
overflow_add-result c =
    let over : IsOver c.self.inside.vars c.args.lit = subst (λ (t : TrailParts). IsOver t.vars c.args.lit) (sym c.self.view_is) c.requires.in_range in
    let is_open : IsOpen (known_of c.self.inside.entries.items) c.args.lit = subst (λ (t : TrailParts). IsOpen (known_of t.entries) c.args.lit) (sym c.self.view_is) c.requires.is_open in
    omega (arith, now_low _ c.self.invariant.laws, room_for _ c.args.lit c.self.invariant.laws over is_open, c.self.invariant.laws.numbered)
