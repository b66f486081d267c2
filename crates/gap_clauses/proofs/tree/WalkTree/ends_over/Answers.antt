-- Why `WalkTree::ends_over` does what its contract says.
use Rattle.std.proofs.Common.{◌∙◌, sym, ap, arith}
use Rattle.gap_clauses.specs.Fans.{ends_over, walk_at}
use Rattle.gap_clauses.specs.Trees.{step_of}
use Rattle.gap_clauses.specs.declared.tree.Branch.{Branch}
use Rattle.gap_clauses.proofs.OnceLaws.{over_push}
use Rattle.gap_clauses.proofs.TreeLemmas.{branch_within, walk_first, walk_step}
use Rattle.gap_clauses.proofs.tree.WalkTree.ends_over.Goals as goal

pub index-requires : goal.index-requires
index-requires c = let low = branch_within c.self.inside.branches.items c.args.self.now c.args.place c.self.view_is (omega (arith, c.if-place-eq0.false)) c.requires in omega (arith, low)

pub returns-then-place-eq0 : goal.returns-then-place-eq0
returns-then-place-eq0 c =
    let first = ap (λ ws. walk_at ws 0) (sym c.self.view_is) ∙ walk_first c.self.inside.branches.items in
    sym (ap (ends_over c.args.node) (ap (walk_at c.args.self.now) c.if-place-eq0.true ∙ first))

pub returns-else-place-eq0 : goal.returns-else-place-eq0
returns-else-place-eq0 c =
    let b : Branch = c.index.result.now in
    let step = walk_step c.self.inside.branches.items c.args.self.now c.args.place b c.self.invariant c.self.view_is (omega (arith, c.if-place-eq0.false)) c.requires (sym c.index.ensures) in
    sym (ap (ends_over c.args.node) step ∙ over_push c.args.node (walk_at c.args.self.now b.before) (step_of b))
