-- Why `trains_of` does what its contract says.
use Rattle.std.proofs.Common.{◌≡◌, length, Some, slice_get, refl}
use Rattle.std.proofs.lemmas.Option.{slice_get_read}
use Rattle.rail_net.proofs.ListLaws.{holds_more}
use Rattle.timetable.specs.Places.{IsTrainFor, KnowsPlaces}
use Rattle.timetable.specs.declared.entries.TrainEntry.{TrainEntry}
use Rattle.timetable.specs.declared.parts.TrainPart.{TrainPart}
use Rattle.timetable.proofs.PlaceLemmas.{train_known}
use Rattle.timetable.proofs.ZipLemmas.{zip_more}
use Rattle.timetable.proofs.places.trains_of.Goals as goal

pub loop-place-preserved : goal.loop-place-preserved
loop-place-preserved c =
    let p = c.args.net.now in
    let entries = c.args.entries.now in
    let place = c.loop-place.place in
    let entry : TrainEntry = c.index-entries-place.result in
    let made : TrainPart = c.in-Ok-train_of.train in
    let is : slice_get entries place ≡ Some entry = slice_get_read entries (length entries) place entry refl c.loop-place-test.true c.index-entries-place.is in
    record {
      trains = zip_more (IsTrainFor p) entries c.loop-place.trains.items c.push.new.self.items place entry made c.loop-place.invariant.trains is c.in-Ok-push.ensures.items c.in-Ok-train_of.ensures.train;
      known = holds_more (λ place t. KnowsPlaces p t) entries place entry c.loop-place.invariant.known is (train_known p entry made c.in-Ok-train_of.ensures.train);
    }
