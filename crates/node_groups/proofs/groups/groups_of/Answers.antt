-- Why `groups_of` does what its contract says.
use Rattle.std.proofs.Common.{IsPermutation}
use Rattle.std.proofs.lemmas.List.Sorted.{IsNonDecreasingBy-from_sort}
use Rattle.std.proofs.lemmas.Result.{IfOk-weaker}
use Rattle.node_groups.specs.Ends.{AreEndsOf}
use Rattle.node_groups.proofs.TouchLemmas.{ends_below, touch_groups, touch_lowest}
use Rattle.node_groups.proofs.groups.groups_of.Goals as goal

pub groups_by_ends-requires-clause-places : goal.groups_by_ends-requires-clause-places
groups_by_ends-requires-clause-places c =
    ends_below c.args.segments.now c.deref.result.now (rw c.deref.ensures.value c.in_ok-ends.ensures.ends)

pub groups_by_ends-requires-clause-barriers : goal.groups_by_ends-requires-clause-barriers
groups_by_ends-requires-clause-barriers c =
    rw c.deref-2.ensures.value (IsNonDecreasingBy-from_sort (λ x. x) _ c.sort_unstable.ensures.sorted)

pub returns-clause-same : goal.returns-clause-same
returns-clause-same c =
    let ends : AreEndsOf c.args.segments.now c.deref.result.now = rw c.deref.ensures.value c.in_ok-ends.ensures.ends in
    let sort : IsPermutation c.args.barriers.now c.deref-2.result.now = rw (c.deref-2.ensures.value, ← c.in_ok-sorted_barriers.ensures.items) c.sort_unstable.ensures.permutation in
    IfOk-weaker _ _ _ (λ groups. touch_groups _ _ ends _ _ sort groups.items) c.groups_by_ends.ensures.same

pub returns-clause-lowest : goal.returns-clause-lowest
returns-clause-lowest c =
    let ends : AreEndsOf c.args.segments.now c.deref.result.now = rw c.deref.ensures.value c.in_ok-ends.ensures.ends in
    let sort : IsPermutation c.args.barriers.now c.deref-2.result.now = rw (c.deref-2.ensures.value, ← c.in_ok-sorted_barriers.ensures.items) c.sort_unstable.ensures.permutation in
    IfOk-weaker _ _ _ (λ groups. touch_lowest _ _ ends _ _ sort groups.items) c.groups_by_ends.ensures.lowest
