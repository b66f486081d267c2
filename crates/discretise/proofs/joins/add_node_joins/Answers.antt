-- Why `add_node_joins` does what its contract says.
use Rattle.std.proofs.Common.{◌≡◌, ◌+◌, ◌++◌, ◌<◌, ℕ, List, subst, sym, ap, refl, ◌∙◌, get_or, take, length, Some, slice_get, arith}
use Rattle.std.proofs.lemmas.List.{take_more, length-take-le}
use Rattle.std.proofs.lemmas.Option.{slice_get_read}
use Rattle.discretise.specs.Joins.{AddsJoins, AreAtNode, NodePair, node_pairs, pairs_of}
use Rattle.discretise.specs.declared.ends.TrackEnd.{TrackEnd}
use Rattle.discretise.proofs.JoinLemmas.{adds_both, adds_none, pairs_push}
use Rattle.discretise.proofs.joins.add_node_joins.Goals as goal

pub loop-node-init : goal.loop-node-init
loop-node-init c = adds_none c.args.net.now c.args.joins.now.items

pub add_joins_at-requires : goal.add_joins_at-requires
add_joins_at-requires c =
    let n = c.loop-node.node in
    let rows : List (List TrackEnd) = c.args.ends.now in
    let row : List TrackEnd = c.index-ends-node.result in
    let there : slice_get rows n ≡ Some row = slice_get_read rows (length rows) n row refl c.loop-node-test.true c.index-ends-node.is in
    subst (AreAtNode c.args.net.now n) (sym c.as_slice.ensures) (c.requires.there.each n row there)

-- one more node
more : (rows : List (List TrackEnd)) (n : ℕ) (row : List TrackEnd) → n < length rows → row ≡ get_or rows n row → node_pairs (take (n + 1) rows) ≡ node_pairs (take n rows) ++ pairs_of n row
more rows n row within is =
    ap node_pairs (take_more rows n row within) ∙ (pairs_push 0 (take n rows) (get_or rows n row)
    ∙ ap (λ m. node_pairs (take n rows) ++ pairs_of m (get_or rows n row)) (let long : length (take n rows) ≡ n = length-take-le n rows (omega arith) in let same : 0 + length (take n rows) ≡ n = omega arith in same)
    ∙ ap (λ r. node_pairs (take n rows) ++ pairs_of n r) (sym is))

pub loop-node-preserved : goal.loop-node-preserved
loop-node-preserved c =
    let p = c.args.net.now in
    let n = c.loop-node.node in
    let rows : List (List TrackEnd) = c.args.ends.now in
    let row : List TrackEnd = c.index-ends-node.result in
    subst (λ (pairs : List NodePair). AddsJoins p pairs c.args.joins.now.items c.add_joins_at.new.joins.items) (sym (more rows n row c.loop-node-test.true c.index-ends-node.is))
    (adds_both p (node_pairs (take n rows)) (pairs_of n row) c.args.joins.now.items c.loop-node.joins.items c.add_joins_at.new.joins.items c.loop-node.invariant
    (subst (λ (r : List TrackEnd). AddsJoins p (pairs_of n r) c.loop-node.joins.items c.add_joins_at.new.joins.items) c.as_slice.ensures c.in_ok-add_joins_at.ensures))
