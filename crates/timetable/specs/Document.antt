-- Timetable documents: what their values are read as, member by member.
use Rattle.std.specs.Prelude.{◌<◌, ◌^◌, ℕ, All, length, unwrap_or, is_some, Ok, codes}
use Rattle.vss_json.specs.Values.{Json, member}
use Rattle.vss_json.specs.Readings.{Reading, ◌>>=◌, object, text, number, optional_number, list, optional_list}
use Rattle.vss_json.specs.declared.fault.ShapeFault.{ShapeFault}
use Rattle.timetable.specs.declared.entries.StopEntry.{StopEntry}
use Rattle.timetable.specs.declared.entries.TrainEntry.{TrainEntry}
use Rattle.timetable.specs.declared.entries.Entries.{Entries}
use Rattle.timetable.specs.declared.refusal.TimeMember.{TimeMember}
use Rattle.timetable.specs.declared.refusal.TimeMember.TheVariants.{Document, SpaceStepM, TimeStepS, HorizonS, Trains, TrainsName, TrainsLengthM, TrainsSpeedKmh, TrainsEntryS, TrainsFrom, TrainsTo, TrainsArriveS, TrainsEntryUntilS, TrainsStops, StopsStation, StopsDwellS, StopsFromS, StopsUntilS}

-- the member is missing or isn't what it has to be, in that train
abbrev pub at_train : TimeMember → ℕ → ShapeFault TimeMember
at_train member train = record { member = member; item = train }

-- a stop of the train of that number; it may begin at once and end with the timetable, where nothing else is said
unfoldable pub stop_entry : ℕ → ℕ → ℕ → Json → Reading StopEntry TimeMember
stop_entry train horizon_s place d = do
  is_object ← object (at_train TrainsStops train) d
  station ← text (at_train StopsStation train) (codes "station") d
  dwell_s ← number (at_train StopsDwellS train) (codes "dwell_s") d
  from_s ← optional_number (at_train StopsFromS train) (codes "from_s") d
  until_s ← optional_number (at_train StopsUntilS train) (codes "until_s") d
  Ok (record { station = station; dwell_s = dwell_s; from_s = unwrap_or from_s 0; until_s = unwrap_or until_s horizon_s })

-- the train of that number
unfoldable pub train_entry : ℕ → ℕ → Json → Reading TrainEntry TimeMember
train_entry horizon_s train d = do
  is_object ← object (at_train Trains train) d
  name ← text (at_train TrainsName train) (codes "name") d
  length_m ← number (at_train TrainsLengthM train) (codes "length_m") d
  speed_kmh ← number (at_train TrainsSpeedKmh train) (codes "speed_kmh") d
  entry_s ← number (at_train TrainsEntryS train) (codes "entry_s") d
  from ← text (at_train TrainsFrom train) (codes "from") d
  to ← text (at_train TrainsTo train) (codes "to") d
  arrive_s ← optional_number (at_train TrainsArriveS train) (codes "arrive_s") d
  entry_until_s ← optional_number (at_train TrainsEntryUntilS train) (codes "entry_until_s") d
  stops ← optional_list (at_train TrainsStops train) (stop_entry train horizon_s) (codes "stops") d
  Ok
      (record {
        name = name;
        length_m = length_m;
        speed_kmh = speed_kmh;
        entry_s = entry_s;
        from = from;
        to = to;
        arrive_s = arrive_s;
        entry_until_s = entry_until_s;
        stops = stops;
        has_legs = is_some (member (codes "legs") d);
      })

-- the entries of a timetable document
unfoldable pub timetable_document : Json → Reading Entries TimeMember
timetable_document d = do
  is_object ← object (at_train Document 0) d
  space_step_m ← number (at_train SpaceStepM 0) (codes "space_step_m") d
  time_step_s ← number (at_train TimeStepS 0) (codes "time_step_s") d
  horizon_s ← number (at_train HorizonS 0) (codes "horizon_s") d
  trains ← list (at_train Trains 0) (train_entry horizon_s) (codes "trains") d
  Ok (record { space_step_m = space_step_m; time_step_s = time_step_s; horizon_s = horizon_s; trains = trains })

-- fewer than 4,294,967,296 stops
abbrev pub HasFewStopEntries : TrainEntry → Type 0
HasFewStopEntries t = length t.stops < 2 ^ 32

-- fewer than 4,294,967,296 trains, and stops of each
pub record HasFewEntries (e : Entries) : Type 0 where
  pub trains : length e.trains < 2 ^ 32
  pub stops : All HasFewStopEntries e.trains
