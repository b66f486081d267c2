-- Why `Trail::entry_of` does what its contract says.
use Rattle.std.proofs.Common.{◌≡◌, ◌≤◌, subst, sym}
use Rattle.std.specs.Prelude.{Any}
use Rattle.search_trail.specs.Trails.{TrailParts}
use Rattle.search_trail.proofs.KeptLemmas.{read_at}
use Rattle.search_trail.proofs.trail.Trail.entry_of.Goals as goal

pub returns-clause-stands : goal.returns-clause-stands
returns-clause-stands c =
    let over : (1 ≤ c.args.var.0) × (c.args.var.0 ≤ c.self.inside.vars) = subst (λ (t : TrailParts). (1 ≤ c.args.var.0) × (c.args.var.0 ≤ t.vars)) (sym c.self.view_is) c.requires.in_range in
    let any : Any (λ e. e.lit.var.0 ≡ c.args.var.0) c.self.inside.entries.items = subst (λ (t : TrailParts). Any (λ e. e.lit.var.0 ≡ c.args.var.0) t.entries) (sym c.self.view_is) c.requires.assigned in
    subst (λ (t : TrailParts). Any (λ e. e ≡ c.index-2.result.now) t.entries) c.self.view_is
    (read_at _ c.self.inside.marks.items c.self.inside.places.items _ c.args.var.0 c.index.result.now c.index-2.result.now c.self.invariant over any c.index.ensures c.index-2.ensures).0

pub returns-clause-variable : goal.returns-clause-variable
returns-clause-variable c =
    let over : (1 ≤ c.args.var.0) × (c.args.var.0 ≤ c.self.inside.vars) = subst (λ (t : TrailParts). (1 ≤ c.args.var.0) × (c.args.var.0 ≤ t.vars)) (sym c.self.view_is) c.requires.in_range in
    let any : Any (λ e. e.lit.var.0 ≡ c.args.var.0) c.self.inside.entries.items = subst (λ (t : TrailParts). Any (λ e. e.lit.var.0 ≡ c.args.var.0) t.entries) (sym c.self.view_is) c.requires.assigned in
    (read_at _ c.self.inside.marks.items c.self.inside.places.items _ c.args.var.0 c.index.result.now c.index-2.result.now c.self.invariant over any c.index.ensures c.index-2.ensures).1
