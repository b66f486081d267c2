-- Why `classes_of` does what its contract says.
use Rattle.std.proofs.Common.{◌≡◌, ◌∙◌, ap, length, arith}
use Rattle.std.proofs.lemmas.List.{length-map}
use Rattle.layout_rules.proofs.ClassLemmas.{classes_from_groups}
use Rattle.layout_rules.proofs.classes.classes_of.Goals as goal

pub groups_of-requires : goal.groups_of-requires
groups_of-requires c =
    let cells = rw c.parts.ensures.parts at c.in_ok-segments.ensures in
    let few = c.parts.ensures.rules.few_cells in
    let each : length c.in_ok-segments.segments.items ≡ length c.args.inst.now.cells = ap length cells ∙ simp length-map in
    rw c.deref.ensures.value (omega arith)

pub returns : goal.returns
returns c =
    let cells = rw c.parts.ensures.parts at c.in_ok-segments.ensures in
    let len = rw c.deref.ensures.value at c.in_ok-classes.ensures.len in
    let same = rw (c.deref.ensures.value, c.deref-2.ensures.value) at c.in_ok-classes.ensures.same in
    let lowest = rw (c.deref.ensures.value, c.deref-2.ensures.value) at c.in_ok-classes.ensures.lowest in
    let barriers = rw c.borders.ensures at c.in_ok-barriers.ensures in
    classes_from_groups c.args.inst.now c.args.layout.now _ _ _ cells barriers len same lowest
