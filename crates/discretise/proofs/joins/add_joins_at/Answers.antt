-- Why `add_joins_at` does what its contract says.
use Rattle.std.proofs.Common.{◌≡◌, ◌+◌, ◌-◌, ℕ, List, arith, length, take, subst, sym, get_or, drop, map}
use Rattle.std.proofs.lemmas.List.{drop_more, drop_all, length-drop, take_all}
use Rattle.discretise.specs.Joins.{AddsJoins, pair_with, pairs_of}
use Rattle.discretise.specs.declared.ends.TrackEnd.{TrackEnd}
use Rattle.discretise.proofs.JoinLemmas.{adds_both, adds_none, no_end}
use Rattle.discretise.proofs.joins.add_joins_at.Goals as goal

-- what is left behind a place
left : (ends : List TrackEnd) (n : ℕ) → take (length ends - n) (drop n ends) ≡ drop n ends
left ends n = take_all (length ends - n) (drop n ends) (let long : length (drop n ends) ≡ length ends - n = length-drop n ends in omega arith)

pub loop-at-preserved : goal.loop-at-preserved
loop-at-preserved c = λ new rest.
    let p = c.args.net.now in
    let i = c.loop-at.at in
    let e : TrackEnd = get_or c.args.ends.now i no_end in
    let later : List TrackEnd = drop (i + 1) c.args.ends.now in
    let added : AddsJoins p (map (pair_with c.args.node e) later) c.loop-at.joins.items c.add_joins_with.new.joins.items =
    subst (λ (es : List TrackEnd). AddsJoins p (map (pair_with c.args.node e) es) c.loop-at.joins.items c.add_joins_with.new.joins.items) (left c.args.ends.now (i + 1)) c.in_ok-add_joins_with.ensures in
    c.loop-at.invariant new
    (subst (λ (es : List TrackEnd). AddsJoins p (pairs_of c.args.node es) c.loop-at.joins.items new) (sym (drop_more c.args.ends.now i no_end c.loop-at-test.true))
    (adds_both p (map (pair_with c.args.node e) later) (pairs_of c.args.node later) c.loop-at.joins.items c.add_joins_with.new.joins.items new added rest))

pub returns : goal.returns
returns c =
    c.loop-at.invariant c.loop-at.joins.items
    (subst (λ (es : List TrackEnd). AddsJoins c.args.net.now (pairs_of c.args.node es) c.loop-at.joins.items c.loop-at.joins.items) (sym (drop_all c.loop-at.at c.args.ends.now c.loop-at-test.false))
    (adds_none c.args.net.now c.loop-at.joins.items))
