-- Why `ends_by_node` does what its contract says.
use Rattle.std.proofs.Common.{List, subst, sym, ap, ◌∙◌, get_or, take}
use Rattle.std.proofs.lemmas.List.{take_more}
use Rattle.discretise.specs.Joins.{AreEndsByNode, high_end, low_end}
use Rattle.discretise.specs.declared.tracks.GridTrack.{GridTrack}
use Rattle.discretise.specs.declared.ends.TrackEnd.{TrackEnd}
use Rattle.discretise.proofs.EndLemmas.{ends_more, no_ends, with_end}
use Rattle.discretise.specs.Tracks.{no_track}
use Rattle.discretise.proofs.ends.ends_by_node.Goals as goal

pub loop-at-init : goal.loop-at-init
loop-at-init c = no_ends c.args.nodes c.in_ok-rows.rows.items c.in_ok-rows.ensures.count c.in_ok-rows.ensures.none

pub loop-at-preserved : goal.loop-at-preserved
loop-at-preserved c =
    let i = c.loop-at.at in
    let gs : List GridTrack = c.args.tracks.now in
    let g : GridTrack = get_or gs i no_track in
    let range = c.requires.range i no_track c.loop-at-test.true in
    let mid : List (List TrackEnd) = c.put.new.rows.items in
    subst (λ (xs : List GridTrack). AreEndsByNode c.args.nodes xs c.put-in-loop-at.new.rows.items) (sym (take_more gs i no_track c.loop-at-test.true))
    (ends_more c.args.nodes (take i gs) g c.loop-at.rows.items mid c.put-in-loop-at.new.rows.items c.loop-at.invariant range.from range.to
    (c.in_ok-put.ensures ∙ ap (with_end c.loop-at.rows.items g.from) c.low_end.ensures) (c.in_ok-put-2.ensures ∙ ap (with_end mid g.to) c.high_end.ensures))
