-- Why `marked_nodes` does what its contract says.
use Rattle.std.proofs.Common.{◌≡◌, ◌++◌, ◌<◌, List, [], ◌∷◌, length, take, get_or, set, true, sym, ap, subst, ◌∙◌}
use Rattle.std.proofs.lemmas.List.{take_more}
use Rattle.rail_net.specs.declared.parts.BorderPart.{BorderPart}
use Rattle.rail_net.specs.declared.parts.NetParts.{NetParts}
use Rattle.discretise.specs.Places.{AreMarkedFor}
use Rattle.discretise.proofs.KeptLemmas.{marked_more}
use Rattle.discretise.proofs.kept.marked_nodes.Goals as goal

pub loop-at-preserved : goal.loop-at-preserved
loop-at-preserved c =
    let p = c.args.net.now in
    let i = c.loop-at.at in
    let seen : List BorderPart = c.as_slice-borders.result.now in
    let part : BorderPart = c.index-borders-at.result in
    let borders : seen ≡ p.borders = c.as_slice-borders.ensures ∙ ap (λ (q : NetParts). q.borders) c.parts.ensures.parts in
    let within : i < length p.borders = subst (λ bs. i < length bs) borders c.loop-at-test.true in
    let read : part ≡ get_or p.borders i part = subst (λ bs. part ≡ get_or bs i part) borders c.index-borders-at.is in
    let number = c.node_of-node.result in
    let below : number < c.args.nodes = subst (λ n. number < n) (sym c.requires.nodes) c.node_of-node.ensures.within in
    subst (λ (bs : List BorderPart). AreMarkedFor p c.args.timetable.now c.args.tracks.now bs c.args.nodes (set c.loop-at.marks.items number true)) (sym (take_more p.borders i part within ∙ ap (λ b. take i p.borders ++ b ∷ []) (sym read)))
    (marked_more p c.args.timetable.now c.args.tracks.now c.parts.ensures.rules c.requires.tracks (take i p.borders) part c.args.nodes number c.loop-at.marks.items c.loop-at.invariant below c.node_of-node.ensures.stands)
