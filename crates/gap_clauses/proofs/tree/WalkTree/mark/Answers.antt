-- Why `WalkTree::mark` does what its contract says.
use Rattle.std.proofs.Common.{◌≡◌, ◌<◌, ◌∙◌, sym, ap, arith}
use Rattle.gap_clauses.specs.Fans.{walk_at}
use Rattle.gap_clauses.specs.Trees.{step_of}
use Rattle.gap_clauses.specs.declared.tree.Branch.{Branch}
use Rattle.gap_clauses.proofs.MarkLemmas.{marks_all, marks_more}
use Rattle.gap_clauses.proofs.TreeLemmas.{before_lower, branch_within, walk_first, walk_step}
use Rattle.gap_clauses.proofs.tree.WalkTree.mark.Goals as goal

pub index-branch-requires : goal.index-branch-requires
index-branch-requires c = let low = branch_within c.self.inside.branches.items c.args.self.now c.loop-at.at c.self.view_is (omega (arith, c.loop-at-test.true)) c.loop-at.invariant.0 in omega (arith, low)

pub loop-at-smaller : goal.loop-at-smaller
loop-at-smaller c = before_lower c.self.inside.branches.items c.args.self.now c.loop-at.at c.index-branch.result.now c.self.invariant c.self.view_is (omega (arith, c.loop-at-test.true)) c.loop-at.invariant.0 (sym c.index-branch.ensures)

pub loop-at-preserved : goal.loop-at-preserved
loop-at-preserved c =
    let b : Branch = c.index-branch.result.now in
    let some = c.loop-at-test.true in
    let low : b.before < c.loop-at.at = before_lower c.self.inside.branches.items c.args.self.now c.loop-at.at b c.self.invariant c.self.view_is (omega (arith, some)) c.loop-at.invariant.0 (sym c.index-branch.ensures) in
    let step = walk_step c.self.inside.branches.items c.args.self.now c.loop-at.at b c.self.invariant c.self.view_is (omega (arith, some)) c.loop-at.invariant.0 (sym c.index-branch.ensures) in
    (omega (arith, low, c.loop-at.invariant.0), c.mark_at.ensures.span, λ k h. marks_more c.args.candidates.now (walk_at c.args.self.now c.args.place) (walk_at c.args.self.now b.before) (walk_at c.args.self.now c.loop-at.at) (step_of b) k _ _ step (c.loop-at.invariant.2 k h) (λ d. c.mark_at.ensures.marks k d h))

pub returns-clause-marks : goal.returns-clause-marks
returns-clause-marks c k h =
    let none : c.loop-at.at ≡ 0 = omega (arith, c.loop-at-test.false) in
    let first = ap (λ ws. walk_at ws 0) (sym c.self.view_is) ∙ walk_first c.self.inside.branches.items in
    marks_all c.args.candidates.now (walk_at c.args.self.now c.args.place) (walk_at c.args.self.now c.loop-at.at) k _ (ap (walk_at c.args.self.now) none ∙ first) (c.loop-at.invariant.2 k h)
