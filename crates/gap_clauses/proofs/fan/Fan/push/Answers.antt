-- Why `Fan::push` does what its contract says.
use Rattle.std.proofs.Common.{◌<◌, ◌≤◌, ◌++◌, ◌∷◌, [], length, get_or, ap, subst, arith}
use Rattle.std.proofs.lemmas.List.{get_or_default}
use Rattle.gap_clauses.specs.Fans.{FanParts, HasTooManyWalks, walk_at}
use Rattle.gap_clauses.specs.Walks.{Step}
use Rattle.gap_clauses.proofs.FanLemmas.{over_full}
use Rattle.gap_clauses.proofs.WalkLaws.{end_of_push, step_to}
use Rattle.gap_clauses.proofs.fan.Fan.push.Goals as goal

pub returns-then-len-ge-WALKS-clause-err : goal.returns-then-len-ge-WALKS-clause-err
returns-then-len-ge-WALKS-clause-err c =
    let count = ap (λ (v : FanParts). v.cells) c.self.view_is in
    let within : c.args.cell.0 < length c.self.inside.lists.items = omega (arith, c.requires.cell, count) in
    let step : Step = step_to c.args.node c.args.cell in
    let full : 64 ≤ length (get_or c.self.inside.lists.items c.args.cell.0 []) = omega (arith, c.len.ensures, ap length c.index.ensures, ap length (get_or_default c.self.inside.lists.items c.args.cell.0 c.index.result.now [] within), c.if-len-ge-WALKS.true) in
    subst (λ (v : FanParts). HasTooManyWalks v.first (v.walks ++ (walk_at v.walks c.args.before ++ step ∷ []) ∷ [])) c.self.view_is
    (over_full c.self.inside.first c.args.cell c.self.inside.tree (walk_at c.self.inside.tree c.args.before ++ step ∷ []) c.self.inside.lists.items c.self.invariant within (end_of_push c.self.inside.first (walk_at c.self.inside.tree c.args.before) step) full)
