-- Why `WalkTree::len` does what its contract says.
use Rattle.std.proofs.Common.{length, ap, arith}
use Rattle.gap_clauses.proofs.TreeLemmas.{walks_length}
use Rattle.gap_clauses.proofs.tree.WalkTree.len.Goals as goal

pub returns : goal.returns
returns c = omega (arith, walks_length c.self.inside.branches.items, ap length c.self.view_is)
