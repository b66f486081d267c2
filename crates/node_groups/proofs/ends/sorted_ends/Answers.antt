-- Why `sorted_ends` does what its contract says.
use Rattle.std.proofs.Common.{IsPermutation}
use Rattle.node_groups.specs.Ends.{ends_from}
use Rattle.node_groups.proofs.EndLemmas.{IsInOrder_from_sort, ends_of_segments}
use Rattle.node_groups.proofs.ends.sorted_ends.Goals as goal

pub returns-clause-ends : goal.returns-clause-ends
returns-clause-ends c =
    let same : IsPermutation (ends_from 0 c.args.segments.now) c.sort_unstable.new.self.items = rw (← c.in_ok-ends.ensures) c.sort_unstable.ensures.permutation in
    ends_of_segments c.args.segments.now c.sort_unstable.new.self.items same

pub returns-clause-order : goal.returns-clause-order
returns-clause-order c = IsInOrder_from_sort c.sort_unstable.new.self.items c.sort_unstable.ensures.sorted
