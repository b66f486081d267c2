-- Why `add_joins_with` does what its contract says.
use Rattle.std.proofs.Common.{List, subst, sym, get_or, take, map, [], ◌∷◌}
use Rattle.discretise.specs.Joins.{AddsJoins, NodePair, pair_with}
use Rattle.discretise.specs.declared.ends.TrackEnd.{TrackEnd}
use Rattle.discretise.proofs.JoinLemmas.{adds_both, adds_none, no_end, with_more}
use Rattle.discretise.proofs.joins.add_joins_with.Goals as goal

pub loop-at-init : goal.loop-at-init
loop-at-init c = adds_none c.args.net.now c.args.joins.now.items

pub loop-at-preserved : goal.loop-at-preserved
loop-at-preserved c =
    let p = c.args.net.now in
    let other : TrackEnd = get_or c.args.others.now c.loop-at.at no_end in
    subst (λ (pairs : List NodePair). AddsJoins p pairs c.args.joins.now.items c.add_join.new.joins.items) (sym (with_more c.args.node c.args.end c.args.others.now c.loop-at.at no_end c.loop-at-test.true))
    (adds_both p (map (pair_with c.args.node c.args.end) (take c.loop-at.at c.args.others.now)) (pair_with c.args.node c.args.end other ∷ []) c.args.joins.now.items c.loop-at.joins.items c.add_join.new.joins.items c.loop-at.invariant c.in_ok-add_join.ensures)
