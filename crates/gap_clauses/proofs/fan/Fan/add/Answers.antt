-- Why `Fan::add` does what its contract says.
use Rattle.std.proofs.Common.{◌<◌, ◌++◌, ◌∷◌, [], ◌∙◌, length, ap, sym, subst, arith}
use Rattle.gap_clauses.specs.Fans.{FanParts, walk_at, walks_to}
use Rattle.gap_clauses.specs.Walks.{Step}
use Rattle.gap_clauses.proofs.FanLemmas.{lists_back, lists_push, lists_same}
use Rattle.gap_clauses.proofs.WalkLaws.{end_of_push, step_to}
use Rattle.gap_clauses.proofs.fan.Fan.add.Goals as goal

pub invariant_of-self-in-Ok : goal.invariant_of-self-in-Ok
invariant_of-self-in-Ok c =
    let count = ap (λ (v : FanParts). v.cells) c.self.view_is in
    let within : c.args.cell.0 < length c.self.inside.lists.items = omega (arith, c.requires.cell, count) in
    let room : length (walks_to c.self.inside.first c.self.inside.tree c.args.cell) < 64 = subst (λ (v : FanParts). length (walks_to v.first v.walks c.args.cell) < 64) (sym c.self.view_is) c.requires.room in
    let step : Step = step_to c.args.node c.args.cell in
    lists_push c.self.inside.first c.args.cell c.self.inside.tree c.lengthen.new.self (walk_at c.self.inside.tree c.args.before ++ step ∷ []) c.self.inside.lists.items c.push_place.new.lists.items c.in_ok-place.place c.self.invariant within room
    (omega (arith, c.in_ok-place.ensures, c.len.ensures)) (end_of_push c.self.inside.first (walk_at c.self.inside.tree c.args.before) step) (λ d. c.in_ok-push_place.ensures.ok d) c.in-Ok.ensures.ok

pub invariant_of-self-in-Err : goal.invariant_of-self-in-Err
invariant_of-self-in-Err c =
    let count = ap (λ (v : FanParts). v.cells) c.self.view_is in
    let within : c.args.cell.0 < length c.self.inside.lists.items = omega (arith, c.requires.cell, count) in
    let back = lists_back c.self.inside.lists.items c.push_place.new.lists.items c.drop_place.new.lists.items c.args.cell.0 c.in_ok-place.place within (λ d. c.in_ok-push_place.ensures.ok d) (λ d places k h. c.drop_place.ensures d places k h) in
    lists_same c.self.inside.first c.self.inside.tree c.lengthen.new.self c.self.inside.lists.items c.drop_place.new.lists.items c.self.invariant c.in-Err.ensures.err back

pub returns-in-Err-clause-cells : goal.returns-in-Err-clause-cells
returns-in-Err-clause-cells c =
    let count = ap (λ (v : FanParts). v.cells) c.self.view_is in
    let within : c.args.cell.0 < length c.self.inside.lists.items = omega (arith, c.requires.cell, count) in
    let back = lists_back c.self.inside.lists.items c.push_place.new.lists.items c.drop_place.new.lists.items c.args.cell.0 c.in_ok-place.place within (λ d. c.in_ok-push_place.ensures.ok d) (λ d places k h. c.drop_place.ensures d places k h) in
    ap length back ∙ count
