-- Why `Marks::mark` does what its contract says.
use Rattle.std.proofs.Common.{◌≡◌, ◌≤◌, ◌-◌, Bool, false, List, length, get_or, arith, sym, subst}
use Rattle.conflict_learn.proofs.MarkLemmas.{touched_room, IsTouched-mark}
use Rattle.conflict_learn.proofs.marks.Marks.mark.Goals as goal

pub push_reserved-requires : goal.push_reserved-requires
push_reserved-requires c =
    let over : (1 ≤ c.args.var.0) × (c.args.var.0 ≤ length c.self.inside.flags.items) = subst (λ (m : List Bool). (1 ≤ c.args.var.0) × (c.args.var.0 ≤ length m)) (sym c.self.view_is) c.requires.in_range in
    let unmarked : get_or c.self.inside.flags.items (c.args.var.0 - 1) false ≡ false = subst (λ (m : List Bool). get_or m (c.args.var.0 - 1) false ≡ false) (sym c.self.view_is) c.requires.unmarked in
    omega (arith, touched_room c.self.inside.flags.items c.self.inside.touched.items _ c.args.var c.self.invariant over unmarked, c.self.invariant.enough)

pub invariant_of-self : goal.invariant_of-self
invariant_of-self c =
    let over : (1 ≤ c.args.var.0) × (c.args.var.0 ≤ length c.self.inside.flags.items) = subst (λ (m : List Bool). (1 ≤ c.args.var.0) × (c.args.var.0 ≤ length m)) (sym c.self.view_is) c.requires.in_range in
    let unmarked : get_or c.self.inside.flags.items (c.args.var.0 - 1) false ≡ false = subst (λ (m : List Bool). get_or m (c.args.var.0 - 1) false ≡ false) (sym c.self.view_is) c.requires.unmarked in
    rw (c.push_reserved.ensures.items, c.push_reserved.ensures.capacity) (IsTouched-mark c.self.inside.flags.items c.self.inside.touched.items _ c.args.var c.self.invariant over unmarked)
