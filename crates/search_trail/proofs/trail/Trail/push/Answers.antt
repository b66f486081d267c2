-- Why `Trail::push` does what its contract says.
use Rattle.std.proofs.Common.{◌≡◌, ◌≤◌, ◌+◌, ◌<◌, arith, subst, sym}
use Rattle.std.specs.Prelude.{None}
use Rattle.sat_core.specs.Clauses.{IsOver}
use Rattle.sat_core.specs.Fresh.{IsOpen}
use Rattle.search_trail.specs.Trails.{TrailParts, known_of}
use Rattle.search_trail.proofs.TrailLaws.{room_for}
use Rattle.search_trail.proofs.KeptLemmas.{IsKept-push}
use Rattle.search_trail.proofs.trail.Trail.push.Goals as goal

pub overflow_cast-len : goal.overflow_cast-len
overflow_cast-len c = omega (arith, c.self.invariant.laws.few, c.self.invariant.laws.numbered, c.len.ensures)

pub push_reserved-requires : goal.push_reserved-requires
push_reserved-requires c =
    let over : IsOver c.self.inside.vars c.args.entry.lit = subst (λ (t : TrailParts). IsOver t.vars c.args.entry.lit) (sym c.self.view_is) c.requires.in_range in
    let is_open : IsOpen (known_of c.self.inside.entries.items) c.args.entry.lit = subst (λ (t : TrailParts). IsOpen (known_of t.entries) c.args.entry.lit) (sym c.self.view_is) c.requires.is_open in
    omega (arith, room_for _ c.args.entry.lit c.self.invariant.laws over is_open, c.self.invariant.enough)

pub invariant_of-self : goal.invariant_of-self
invariant_of-self c =
    let over : IsOver c.self.inside.vars c.args.entry.lit = subst (λ (t : TrailParts). IsOver t.vars c.args.entry.lit) (sym c.self.view_is) c.requires.in_range in
    let is_open : IsOpen (known_of c.self.inside.entries.items) c.args.entry.lit = subst (λ (t : TrailParts). IsOpen (known_of t.entries) c.args.entry.lit) (sym c.self.view_is) c.requires.is_open in
    let low : c.self.inside.present ≤ c.args.entry.level = subst (λ (t : TrailParts). t.present ≤ c.args.entry.level) (sym c.self.view_is) c.requires.low in
    let high : c.args.entry.level ≤ c.self.inside.present + 1 = subst (λ (t : TrailParts). c.args.entry.level ≤ t.present + 1) (sym c.self.view_is) c.requires.high in
    let decided : c.args.entry.reason ≡ None → c.self.inside.present < c.args.entry.level = subst (λ (t : TrailParts). c.args.entry.reason ≡ None → t.present < c.args.entry.level) (sym c.self.view_is) c.requires.decided in
    rw (c.push_reserved.ensures.items, c.push_reserved.ensures.capacity, c.place.ensures, c.len.ensures)
    (IsKept-push (record { vars = c.self.inside.vars; entries = c.self.inside.entries.items; read = c.self.inside.read; present = c.self.inside.present }) c.self.inside.marks.items c.self.inside.places.items _ c.args.entry c.self.invariant over is_open low high decided _ (omega arith))
