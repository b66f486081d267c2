-- Why `node_of_cut` does what its contract says.
use Rattle.std.proofs.Common.{◌≡◌, ◌+◌, ◌-◌, ◌/◌, ◌<◌, ◌≤◌, ℕ, List, length, get_or, sym, subst, arith}
use Rattle.std.proofs.lemmas.Option.{get_or_from_slice_get, slice_get_within}
use Rattle.rail_net.specs.declared.parts.NetParts.{NetParts}
use Rattle.rail_net.proofs.ListLaws.{contains_at}
use Rattle.timetable.specs.declared.parts.Timetable.{Timetable}
use Rattle.discretise.specs.Places.{IsCutAt}
use Rattle.discretise.specs.Tracks.{AreSmall, IsSmall, cut_total, no_track}
use Rattle.discretise.specs.declared.tracks.GridTrack.{GridTrack}
use Rattle.discretise.proofs.KeptLemmas.{IsCutWell, cut_well, track_there}
use Rattle.discretise.proofs.kept.node_of_cut.Goals as goal

pub unreachable-requires : goal.unreachable-requires
unreachable-requires c = let there = track_there c.args.net.now c.args.track.now c.args.at_m c.requires.stands in c.in_default.ensures there.0 there.1

-- what is known of the track that is read
record IsRead (p : NetParts) (t : Timetable) (gs : List GridTrack) (track : List ℕ) (at_m number : ℕ) (g : GridTrack) : Type 0 where
  within : number < length gs
  small : IsSmall g
  some : 0 < at_m / t.space_step_m
  below : at_m / t.space_step_m < g.count
  cut : g.cut + (g.count - 1) ≤ length p.nodes + cut_total gs
  stands : (result : ℕ) → result + 1 ≡ g.cut + at_m / t.space_step_m → IsCutAt p t gs track at_m result

read : (p : NetParts) (t : Timetable) (gs : List GridTrack) (track : List ℕ) (at_m number : ℕ) → AreSmall gs → IsCutWell p t gs track at_m number → IsRead p t gs track at_m number (get_or gs number no_track)
read p t gs track at_m number small well =
    let within : number < length gs = slice_get_within gs number well.g well.is_grid in
    subst (IsRead p t gs track at_m number) (sym (get_or_from_slice_get gs number well.g no_track well.is_grid)) (record {
      within = within;
      small = subst IsSmall (get_or_from_slice_get gs number well.g no_track well.is_grid) (small number no_track within);
      some = well.some;
      below = well.below;
      cut = well.cut;
      stands = λ result is. record { g = well.g; there = contains_at gs number well.g well.is_grid; named = well.named; at = is };
    })

pub bounds-tracks-number : goal.bounds-tracks-number
bounds-tracks-number c =
    (read c.args.net.now c.args.timetable.now c.args.tracks.now c.args.track.now c.args.at_m c.in-Some.number c.requires.small
    (cut_well c.args.net.now c.args.timetable.now c.args.tracks.now c.parts-parts.ensures.rules c.requires.tracks c.requires.timetable.steps.some_space c.args.track.now c.args.at_m c.in-Some.number c.requires.stands c.requires.on_grid c.in-Some.ensures)).within

pub overflow_cast-result-2 : goal.overflow_cast-result-2
overflow_cast-result-2 c =
    let its = read c.args.net.now c.args.timetable.now c.args.tracks.now c.args.track.now c.args.at_m c.in-Some.number c.requires.small
    (cut_well c.args.net.now c.args.timetable.now c.args.tracks.now c.parts-parts.ensures.rules c.requires.tracks c.requires.timetable.steps.some_space c.args.track.now c.args.at_m c.in-Some.number c.requires.stands c.requires.on_grid c.in-Some.ensures) in
    record { fits = omega (arith, its.below, its.small.cells) }

pub overflow_add-result : goal.overflow_add-result
overflow_add-result c =
    let its = read c.args.net.now c.args.timetable.now c.args.tracks.now c.args.track.now c.args.at_m c.in-Some.number c.requires.small
    (cut_well c.args.net.now c.args.timetable.now c.args.tracks.now c.parts-parts.ensures.rules c.requires.tracks c.requires.timetable.steps.some_space c.args.track.now c.args.at_m c.in-Some.number c.requires.stands c.requires.on_grid c.in-Some.ensures) in
    record { fits = omega (arith, its.below, its.small.cuts) }

pub returns-clause-stands : goal.returns-clause-stands
returns-clause-stands c =
    let its = read c.args.net.now c.args.timetable.now c.args.tracks.now c.args.track.now c.args.at_m c.in-Some.number c.requires.small
    (cut_well c.args.net.now c.args.timetable.now c.args.tracks.now c.parts-parts.ensures.rules c.requires.tracks c.requires.timetable.steps.some_space c.args.track.now c.args.at_m c.in-Some.number c.requires.stands c.requires.on_grid c.in-Some.ensures) in
    its.stands _ (omega (arith, its.some))

pub returns-clause-within : goal.returns-clause-within
returns-clause-within c =
    let its = read c.args.net.now c.args.timetable.now c.args.tracks.now c.args.track.now c.args.at_m c.in-Some.number c.requires.small
    (cut_well c.args.net.now c.args.timetable.now c.args.tracks.now c.parts-parts.ensures.rules c.requires.tracks c.requires.timetable.steps.some_space c.args.track.now c.args.at_m c.in-Some.number c.requires.stands c.requires.on_grid c.in-Some.ensures) in
    omega (arith, its.some, its.below, its.cut)
