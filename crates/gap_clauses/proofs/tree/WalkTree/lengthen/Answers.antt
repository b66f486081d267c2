-- Why `WalkTree::lengthen` does what its contract says.
use Rattle.std.proofs.Common.{◌∙◌, ◌++◌, ◌∷◌, [], length, ap, arith}
use Rattle.gap_clauses.specs.Trees.{walks_of_tree, lengthened}
use Rattle.gap_clauses.proofs.TreeLemmas.{branches_push, walks_length, walks_push}
use Rattle.gap_clauses.proofs.tree.WalkTree.lengthen.Goals as goal

pub invariant_of-self-2 : goal.invariant_of-self-2
invariant_of-self-2 c = branches_push _ _ (record { before = c.args.before; node = c.args.node; cell = c.args.cell }) c.self.invariant
    (omega (arith, walks_length c.self.inside.branches.items, ap length c.self.view_is, c.requires)) c.in_ok-push.ensures.items

pub returns-clause-ok : goal.returns-clause-ok
returns-clause-ok c = ap walks_of_tree c.in_ok-push.ensures.items
    ∙ (walks_push c.self.inside.branches.items (record { before = c.args.before; node = c.args.node; cell = c.args.cell })
    ∙ ap (λ walks. walks ++ lengthened walks (record { before = c.args.before; node = c.args.node; cell = c.args.cell }) ∷ []) c.self.view_is)
