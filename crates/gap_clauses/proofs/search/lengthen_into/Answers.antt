-- Why `lengthen_into` does what its contract says.
use Rattle.std.proofs.Common.{◌≡◌, ◌∙◌, get_or, ap, sym, subst}
use Rattle.std.proofs.lemmas.List.{get_or_default}
use Rattle.cell_net.specs.declared.ids.CellId.{CellId}
use Rattle.gap_clauses.specs.Fans.{IsNewIn, longer, walk_at}
use Rattle.gap_clauses.proofs.SearchLemmas.{stop_alike, stop_within, walk_kept}
use Rattle.gap_clauses.proofs.search.lengthen_into.Goals as goal

pub returns-in-Err-clause-err : goal.returns-in-Err-clause-err
returns-in-Err-clause-err c =
    let d : CellId = get_or c.args.cells.now c.loop-at.at (record { 0 = 0 }) in
    let old = c.args.fan.now.walks in
    let kept = walk_kept old c.loop-at.fan.walks _ c.args.place c.loop-at.invariant.2 c.requires.within in
    let same : longer c.loop-at.fan.first c.args.node (walk_at c.loop-at.fan.walks c.args.place) d ≡ longer c.args.fan.now.first c.args.node (walk_at old c.args.place) d =
    ap (λ e. longer e c.args.node (walk_at c.loop-at.fan.walks c.args.place) d) c.loop-at.invariant.0 ∙ ap (λ w. longer c.args.fan.now.first c.args.node w d) kept in
    stop_within (longer c.args.fan.now.first c.args.node (walk_at old c.args.place)) c.args.fan.now.first c.args.cells.now c.loop-at.at d old c.loop-at.fan.walks _ c.in-Err.stop c.loop-at-test.true
    (get_or_default c.args.cells.now c.loop-at.at d (record { 0 = 0 }) c.loop-at-test.true) c.loop-at.invariant.2 same (stop_alike c.args.fan.now.first c.loop-at.fan.first _ c.in-Err.stop (sym c.loop-at.invariant.0) c.in-Err.ensures.err)

pub lengthen_by-requires-clause-new : goal.lengthen_by-requires-clause-new
lengthen_by-requires-clause-new c =
    let kept = walk_kept c.args.fan.now.walks c.loop-at.fan.walks _ c.args.place c.loop-at.invariant.2 c.requires.within in
    let d : CellId = get_or c.args.cells.now c.loop-at.at (record { 0 = 0 }) in
    subst (λ w. IsNewIn w d) (sym kept) (c.requires.new c.loop-at.at (record { 0 = 0 }) c.loop-at-test.true)
