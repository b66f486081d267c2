-- Why `stops_of` does what its contract says.
use Rattle.std.proofs.Common.{◌≡◌, length, Some, slice_get, subst, sym, refl}
use Rattle.std.proofs.lemmas.Option.{slice_get_read}
use Rattle.rail_net.proofs.ListLaws.{holds_more}
use Rattle.rail_net.specs.Parts.{IsStation}
use Rattle.timetable.specs.Places.{IsStopFor, KnowsStation}
use Rattle.timetable.specs.declared.entries.StopEntry.{StopEntry}
use Rattle.timetable.specs.declared.parts.StopPart.{StopPart}
use Rattle.timetable.proofs.PlaceLemmas.{no_station_there, station_there}
use Rattle.timetable.proofs.ZipLemmas.{zip_more}
use Rattle.timetable.proofs.places.stops_of.Goals as goal

pub returns-in-None-clause-unknown : goal.returns-in-None-clause-unknown
returns-in-None-clause-unknown c =
    let p = c.args.net.now in
    let entries = c.args.entries.now in
    let place = c.loop-place.place in
    let entry : StopEntry = c.index-entries-place.result in
    record {
      before = c.loop-place.invariant.known;
      item = entry;
      is_there = slice_get_read entries (length entries) place entry refl c.loop-place-test.true c.index-entries-place.is;
      breaks = no_station_there p entry.station (λ station is. c.in-None.ensures station (subst (λ name. IsStation p name station) (sym c.as_str.ensures) is));
    }

pub loop-place-preserved : goal.loop-place-preserved
loop-place-preserved c =
    let p = c.args.net.now in
    let entries = c.args.entries.now in
    let place = c.loop-place.place in
    let entry : StopEntry = c.index-entries-place.result in
    let made : StopPart = record { station = c.in-Some.station; from_s = entry.from_s; until_s = entry.until_s; dwell_s = entry.dwell_s } in
    let is : slice_get entries place ≡ Some entry = slice_get_read entries (length entries) place entry refl c.loop-place-test.true c.index-entries-place.is in
    let found : IsStation p entry.station c.in-Some.station = subst (λ name. IsStation p name c.in-Some.station) c.as_str.ensures c.in-Some.ensures in
    let own : IsStopFor p entry made = record { station = found; dwell_s = refl; from_s = refl; until_s = refl } in
    record {
      stops = zip_more (IsStopFor p) entries c.loop-place.stops.items c.push.new.self.items place entry made c.loop-place.invariant.stops is c.in-Ok-push.ensures.items own;
      known = holds_more (KnowsStation p) entries place entry c.loop-place.invariant.known is (station_there p entry.station c.in-Some.station found);
    }
