-- Why `Assignment::assume` does what its contract says.
use Rattle.std.proofs.Common.{◌<◌, length, arith, sym, subst}
use Rattle.sat_core.specs.Clauses.{IsOver}
use Rattle.sat_core.specs.Fresh.{IsOpen}
use Rattle.sat_core.proofs.OpenLaws.{open_room, NoVariableTwice-push}
use Rattle.log_checker.specs.Assigned.{Known}
use Rattle.sat_core.proofs.MarkLaws.{AreMarked-push}
use Rattle.log_checker.proofs.assignment.Assignment.assume.Goals as goal

pub push_reserved-requires : goal.push_reserved-requires
push_reserved-requires c =
    let over : IsOver c.self.inside.vars c.args.lit = subst (λ (known : Known). IsOver known.vars c.args.lit) (sym c.self.view_is) c.requires.over in
    let is_open : IsOpen c.self.inside.trail.items c.args.lit = subst (λ (known : Known). IsOpen known.lits c.args.lit) (sym c.self.view_is) c.requires.is_open in
    let room : length c.self.inside.trail.items < c.self.inside.vars = open_room c.self.inside.vars c.self.inside.trail.items c.args.lit c.self.invariant.marked.in_range c.self.invariant.no_variable_twice over is_open in
    omega (arith, c.self.invariant.room)

pub invariant_of-self : goal.invariant_of-self
invariant_of-self c =
    let over : IsOver c.self.inside.vars c.args.lit = subst (λ (known : Known). IsOver known.vars c.args.lit) (sym c.self.view_is) c.requires.over in
    let is_open : IsOpen c.self.inside.trail.items c.args.lit = subst (λ (known : Known). IsOpen known.lits c.args.lit) (sym c.self.view_is) c.requires.is_open in
    rw (c.push_reserved.ensures.items, c.place.ensures, c.push_reserved.ensures.capacity) (record {
      marked = AreMarked-push c.self.inside.vars c.self.inside.marks.items c.self.inside.trail.items c.args.lit c.self.invariant.marked over;
      no_variable_twice = NoVariableTwice-push c.self.inside.trail.items c.args.lit c.self.invariant.no_variable_twice is_open;
      room = c.self.invariant.room;
    })
