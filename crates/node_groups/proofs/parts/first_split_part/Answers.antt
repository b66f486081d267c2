-- Why `first_split_part` does what its contract says.
use Rattle.std.proofs.Common.{◌∙◌, ap, length, []}
use Rattle.std.proofs.lemmas.List.Sorted.{IsPermutation-refl}
use Rattle.node_groups.specs.Ends.{AreEndsOf}
use Rattle.node_groups.specs.Parts.{HasOneGroup, IsConnectedPart}
use Rattle.node_groups.proofs.TouchLemmas.{ends_below, touch_groups}
use Rattle.node_groups.proofs.PartLemmas.{connected_alike, ends_moved, finds_alike}
use Rattle.node_groups.proofs.parts.first_split_part.Goals as goal

pub groups_by_ends-requires-clause-places : goal.groups_by_ends-requires-clause-places
groups_by_ends-requires-clause-places c = ends_below _ _ c.requires.ends

pub split_part-requires-clause-places : goal.split_part-requires-clause-places
split_part-requires-clause-places c =
    let len = ap length c.deref-2.ensures.value ∙ c.in_ok-groups.ensures.len in
    let same = rw c.in_ok-by_part.ensures.items at c.sort_by_part.ensures.same in
    let moved : AreEndsOf c.args.segments.now c.deref.result.now =
    rw c.deref.ensures.value (ends_moved c.args.segments.now c.args.ends.now c.sort_by_part.new.ends.items same c.requires.ends) in
    rw len (ends_below c.args.segments.now c.deref.result.now moved)

pub returns : goal.returns
returns c =
    let len = ap length c.deref-2.ensures.value ∙ c.in_ok-groups.ensures.len in
    let same = rw c.in_ok-by_part.ensures.items at c.sort_by_part.ensures.same in
    let moved : AreEndsOf c.args.segments.now c.deref.result.now =
    rw c.deref.ensures.value (ends_moved c.args.segments.now c.args.ends.now c.sort_by_part.new.ends.items same c.requires.ends) in
    let touch = touch_groups c.args.segments.now c.args.ends.now c.requires.ends [] [] (IsPermutation-refl []) c.deref-2.result.now
    (rw c.deref-2.ensures.value c.in_ok-groups.ensures.same) in
    finds_alike (HasOneGroup c.deref.result.now c.deref-2.result.now) (IsConnectedPart c.args.segments.now)
    (connected_alike c.args.segments.now c.deref.result.now moved c.deref-2.result.now len touch) _ c.split_part.ensures
