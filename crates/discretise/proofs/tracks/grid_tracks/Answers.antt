-- Why `grid_tracks` does what its contract says.
use Rattle.std.proofs.Common.{◌≡◌, ◌<◌, ◌≤◌, ◌+◌, ◌-◌, ◌^◌, ℕ, List, length, Some, slice_get, refl, sym, ap, subst, ◌∙◌, arith}
use Rattle.std.proofs.lemmas.List.{take_all}
use Rattle.std.proofs.lemmas.Option.{slice_get_read}
use Rattle.rail_net.specs.declared.parts.TrackPart.{TrackPart}
use Rattle.rail_net.specs.declared.parts.NetParts.{NetParts}
use Rattle.timetable.specs.declared.parts.Timetable.{Timetable}
use Rattle.discretise.specs.Tracks.{AreGridTracks, AreLaid}
use Rattle.discretise.specs.declared.tracks.GridTrack.{GridTrack}
use Rattle.discretise.proofs.TrackLemmas.{AreLaidBelow, in_range, laid_more}
use Rattle.discretise.proofs.tracks.grid_tracks.Goals as goal

pub loop-number-preserved : goal.loop-number-preserved
loop-number-preserved c =
    let p = c.args.net.now in
    let t = c.args.timetable.now in
    let i = c.loop-number.number in
    let seen : List TrackPart = c.as_slice-tracks.result.now in
    let part : TrackPart = c.index-tracks-number.result in
    let tracks : seen ≡ p.tracks = c.as_slice-tracks.ensures ∙ ap (λ (q : NetParts). q.tracks) c.parts-parts.ensures.parts in
    let there : slice_get p.tracks i ≡ Some part = subst (λ ts. slice_get ts i ≡ Some part) tracks (slice_get_read seen (length seen) i part refl c.loop-number-test.true c.index-tracks-number.is) in
    let nodes : length c.parts-parts.result.now.nodes ≡ length p.nodes = ap (λ (q : NetParts). length q.nodes) c.parts-parts.ensures.parts in
    let few_nodes : length p.nodes + 1000 < 2 ^ 32 = omega (arith, c.if-nodes.false, c.len-nodes.ensures) in
    let length_m = c.parts-parts.ensures.rules.lengths.at_each i part there in
    let more : AreLaidBelow p t (i + 1) c.push.new.self.items (c.loop-number.first + c.grid_track-track.result.count) (c.loop-number.cut + (c.grid_track-track.result.count - 1)) =
    laid_more p t i c.loop-number.gs.items c.loop-number.first c.loop-number.cut part c.grid_track-track.result c.push.new.self.items c.loop-number.invariant there
    c.grid_track-track.ensures c.in_ok-push.ensures.items length_m.some c.requires.timetable.steps.some_space c.requires.few few_nodes in
    subst (λ n. AreLaidBelow p t (i + 1) c.push.new.self.items (c.loop-number.first + c.grid_track-track.result.count) (c.loop-number.cut + n)) (sym c.saturating_sub-cut.ensures) more

all_laid : (p : NetParts) (t : Timetable) (n : ℕ) (gs : List GridTrack) (first cut : ℕ) → AreLaidBelow p t n gs first cut → length p.tracks ≤ n → AreGridTracks p t gs
unfolding AreGridTracks
all_laid p t n gs first cut below past = subst (λ ts. AreLaid p t 0 0 (length p.nodes) ts gs) (take_all n p.tracks past) below.laid

pub returns-clause-tracks : goal.returns-clause-tracks
returns-clause-tracks c =
    let p = c.args.net.now in
    let seen : List TrackPart = c.as_slice-tracks.result.now in
    let tracks : seen ≡ p.tracks = c.as_slice-tracks.ensures ∙ ap (λ (q : NetParts). q.tracks) c.parts-parts.ensures.parts in
    all_laid p c.args.timetable.now c.loop-number.number c.loop-number.gs.items c.loop-number.first c.loop-number.cut c.loop-number.invariant (subst (λ ts. length ts ≤ c.loop-number.number) tracks c.loop-number-test.false)

pub returns-clause-ranges : goal.returns-clause-ranges
returns-clause-ranges c =
    let p = c.args.net.now in
    let seen : List TrackPart = c.as_slice-tracks.result.now in
    let tracks : seen ≡ p.tracks = c.as_slice-tracks.ensures ∙ ap (λ (q : NetParts). q.tracks) c.parts-parts.ensures.parts in
    in_range p c.args.timetable.now c.loop-number.gs.items
    (all_laid p c.args.timetable.now c.loop-number.number c.loop-number.gs.items c.loop-number.first c.loop-number.cut c.loop-number.invariant (subst (λ ts. length ts ≤ c.loop-number.number) tracks c.loop-number-test.false))
