-- Why `groups_by_ends` does what its contract says.
use Rattle.std.proofs.Common.{arith}
use Rattle.node_groups.proofs.GroupLemmas.{JoinsBy_alike, flat_same, flat_lowest, written_back}
use Rattle.node_groups.proofs.groups.groups_by_ends.Goals as goal

pub join_ends-requires-clause-roots : goal.join_ends-requires-clause-roots
join_ends-requires-clause-roots c = rw c.as_mut_slice-parents.ensures.value c.in_ok-groups.ensures.roots

pub returns-clause-same : goal.returns-clause-same
returns-clause-same c =
    let flat = c.flatten.ensures in
    rw (written_back c.flatten.new.parents c.in_ok-groups.groups.items c.in_ok-groups.groups.len (omega arith))
    (flat_same c.flatten.new.parents _ flat.forest flat.roots (JoinsBy_alike _ _ _ flat.joined c.join_ends.ensures.joined))

pub returns-clause-lowest : goal.returns-clause-lowest
returns-clause-lowest c =
    let flat = c.flatten.ensures in
    rw (written_back c.flatten.new.parents c.in_ok-groups.groups.items c.in_ok-groups.groups.len (omega arith))
    (flat_lowest c.flatten.new.parents _ flat.forest flat.roots (JoinsBy_alike _ _ _ flat.joined c.join_ends.ensures.joined))
