-- Why `cells_of_station` does what its contract says.
use Rattle.std.proofs.Common.{◌≡◌, ◌↔◌, ◌<◌, ◌++◌, Bool, true, false, IsTrue, List, [], ◌∷◌, length, take, get_or, Some, refl, sym, ap, subst, ◌∙◌}
use Rattle.std.specs.Prelude.{if◌then◌else◌}
use Rattle.std.specs.List.{Contains, flat_map}
use Rattle.std.proofs.lemmas.List.{append-nil, take_more}
use Rattle.std.proofs.lemmas.Grind.{flat_map-append}
use Rattle.std.proofs.lemmas.Option.{same_Some, slice_get-get_or}
use Rattle.cell_net.specs.declared.ids.CellId.{CellId}
use Rattle.rail_net.specs.Parts.{IsTrack}
use Rattle.rail_net.specs.declared.parts.GroupPart.{GroupPart}
use Rattle.rail_net.specs.declared.parts.TrackPart.{TrackPart}
use Rattle.rail_net.specs.declared.parts.NetParts.{NetParts}
use Rattle.rail_net.proofs.ListLaws.{map_at, there_is}
use Rattle.discretise.specs.Stations.{AreMarkedNames, IsStationOf, IsTrackOf, cell_ids}
use Rattle.discretise.specs.Tracks.{no_track}
use Rattle.discretise.specs.declared.tracks.GridTrack.{GridTrack}
use Rattle.discretise.proofs.PickLaws.{picks_push, picks_skip}
use Rattle.discretise.proofs.stations.cells_of_station.Goals as goal

-- the mark tells whether the station lists the track
mark_tells : (p : NetParts) (s : GroupPart) (marks : List Bool) (g : GridTrack) → AreMarkedNames p s.tracks marks → g.number < length p.tracks → (told : Bool) → told ≡ get_or marks g.number told → IsTrue told ↔ IsTrackOf p s g
mark_tells p s marks g all within told read =
    let part = there_is p.tracks g.number within in
    let named : IsTrack p part.0.name g.number = map_at (λ (t : TrackPart). t.name) p.tracks g.number part.0 part.1 in
    let tells = all.each g.number told part.0.name (slice_get-get_or marks g.number told (subst (λ n. g.number < n) (sym all.count) within) ∙ ap Some (sym read)) named in (
      λ yes_told. record { name = part.0.name; is_track = named; listed = tells.0 yes_told },
      λ its. tells.1 (subst (Contains s.tracks) (same_Some its.name part.0.name (sym its.is_track ∙ named)) its.listed),
    )

-- one more track, whose cells are added where the station lists it
more : (p : NetParts) (s : GroupPart) (gs : List GridTrack) (g : GridTrack) (cells new : List CellId) (told : Bool) → IsStationOf p gs s cells → IsTrue told ↔ IsTrackOf p s g
    → new ≡ (if told then cells ++ cell_ids g else cells) → IsStationOf p (gs ++ g ∷ []) s new
more p s gs g cells new true so_far tells is = record {
  tracks = so_far.tracks ++ g ∷ [];
  picked = picks_push (IsTrackOf p s) gs so_far.tracks g so_far.picked (tells.0 refl);
  are = is ∙ (ap (λ cs. cs ++ cell_ids g) so_far.are ∙ sym (flat_map-append cell_ids so_far.tracks (g ∷ []) ∙ ap (λ cs. flat_map cell_ids so_far.tracks ++ cs) (append-nil (cell_ids g))));
}
more p s gs g cells new false so_far tells is = record {
  tracks = so_far.tracks;
  picked = picks_skip (IsTrackOf p s) gs so_far.tracks g so_far.picked (λ its. let told = tells.1 its in absurd cc);
  are = is ∙ so_far.are;
}

pub loop-at-preserved : goal.loop-at-preserved
loop-at-preserved c =
    let p = c.args.net.now in
    let i = c.loop-at.at in
    let gs : List GridTrack = c.args.tracks.now in
    let g : GridTrack = get_or gs i no_track in
    let range = c.requires.range i no_track c.loop-at-test.true in
    subst (λ (xs : List GridTrack). IsStationOf p xs c.args.station.now c.add_if_marked.new.cells.items) (sym (take_more gs i no_track c.loop-at-test.true))
    (more p c.args.station.now (take i gs) g c.loop-at.cells.items c.add_if_marked.new.cells.items c.index.result.now c.loop-at.invariant
    (mark_tells p c.args.station.now c.in_ok-marks.marks.items g c.in_ok-marks.ensures (subst (λ n. g.number < n) c.requires.count range.number) c.index.result.now c.index.ensures) c.in_ok-add_if_marked.ensures)
