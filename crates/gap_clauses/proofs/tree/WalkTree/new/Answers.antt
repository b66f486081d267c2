-- Why `WalkTree::new` does what its contract says.
use Rattle.std.proofs.Common.{◌∙◌, ap}
use Rattle.gap_clauses.specs.Trees.{walks_of_tree}
use Rattle.gap_clauses.proofs.TreeLemmas.{first_walk}
use Rattle.gap_clauses.proofs.tree.WalkTree.new.Goals as goal

pub returns : goal.returns
returns c = ap walks_of_tree c.new.ensures.items ∙ first_walk
