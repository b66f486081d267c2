-- Why `Trail::back_to` does what its contract says.
use Rattle.std.proofs.Common.{◌≤◌, arith, subst, sym}
use Rattle.search_trail.specs.Trails.{TrailParts}
use Rattle.search_trail.proofs.KeptLemmas.{IsKept-cut_slice}
use Rattle.search_trail.proofs.trail.Trail.back_to.Goals as goal

pub overflow_cast-size : goal.overflow_cast-size
overflow_cast-size c = omega (arith, c.self.invariant.laws.few, c.self.invariant.laws.numbered, c.undo-size.ensures.within, c.as_slice.ensures.len)

pub invariant_of-self : goal.invariant_of-self
invariant_of-self c =
    let low : c.args.level ≤ c.self.inside.present = subst (λ (t : TrailParts). c.args.level ≤ t.present) (sym c.self.view_is) c.requires.reached in
    rw (c.truncate.ensures.items, c.truncate.ensures.capacity, c.min-self-inside.ensures)
    (IsKept-cut_slice (record { vars = c.self.inside.vars; entries = c.self.inside.entries.items; read = c.self.inside.read; present = c.self.inside.present }) c.self.inside.marks.items c.undo-size.new.marks _ c.self.inside.places.items _ c.undo-size.result c.args.level c.self.invariant (omega arith)
    (rw c.as_slice.ensures.value at c.undo-size.ensures.within)
    (rw c.as_slice.ensures.value at c.undo-size.ensures.marked)
    (rw c.as_slice.ensures.value at c.undo-size.ensures.kept)
    (rw c.as_slice.ensures.value at c.undo-size.ensures.gone)
    low)
