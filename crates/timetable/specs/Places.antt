-- What the names of a timetable document refer to in a network, and the trains with these numbers.
use Rattle.std.specs.Prelude.{◌≡◌, ℕ, List, Some, slice_get, ⊤}
use Rattle.std.specs.List.{AllZip}
use Rattle.vss_lists.specs.Breaks.{HoldsOfEach}
use Rattle.rail_net.specs.Parts.{IsNode, IsStation}
use Rattle.rail_net.specs.declared.parts.NetParts.{NetParts}
use Rattle.rail_net.specs.declared.parts.NodeKind.TheVariants as kind
use Rattle.timetable.specs.declared.entries.StopEntry.{StopEntry}
use Rattle.timetable.specs.declared.entries.TrainEntry.{TrainEntry}
use Rattle.timetable.specs.declared.entries.Entries.{Entries}
use Rattle.timetable.specs.declared.parts.StopPart.{StopPart}
use Rattle.timetable.specs.declared.parts.TrainPart.{TrainPart}
use Rattle.timetable.specs.declared.parts.Timetable.{Timetable}
use Rattle.timetable.specs.declared.places.Miss.{Miss}
use Rattle.timetable.specs.declared.places.Miss.TheVariants.{Unknown, Memory}

-- a node of the network has the name
unfoldable pub IsNodeThere : NetParts → List ℕ → Type 0
IsNodeThere p name = (node : ℕ) × IsNode p name node

-- a station of the network has the name
unfoldable pub IsStationThere : NetParts → List ℕ → Type 0
IsStationThere p name = (station : ℕ) × IsStation p name station

-- the station of a stop is there
abbrev pub KnowsStation : NetParts → ℕ → StopEntry → Type 0
KnowsStation p place s = IsStationThere p s.station

-- the nodes and the stations that a train refers to are there
pub record KnowsPlaces (p : NetParts) (t : TrainEntry) : Type 0 where
  pub from : IsNodeThere p t.from
  pub to : IsNodeThere p t.to
  pub stations : HoldsOfEach (KnowsStation p) t.stops

-- the name is that of an end node
unfoldable pub IsEndName : NetParts → List ℕ → Type 0
IsEndName p name = (node : ℕ) × (slice_get p.nodes node ≡ Some (record { name = name; kind = kind.EndNode }))

-- a train begins and ends at end nodes
pub record IsBetweenEnds (p : NetParts) (t : TrainEntry) : Type 0 where
  pub from : IsEndName p t.from
  pub to : IsEndName p t.to

-- the stop of the entry, with the number of its station
pub record IsStopFor (p : NetParts) (entry : StopEntry) (s : StopPart) : Type 0 where
  pub station : IsStation p entry.station s.station
  pub dwell_s : s.dwell_s ≡ entry.dwell_s
  pub from_s : s.from_s ≡ entry.from_s
  pub until_s : s.until_s ≡ entry.until_s

-- the train of the entry, with the numbers of its nodes and stations
pub record IsTrainFor (p : NetParts) (entry : TrainEntry) (t : TrainPart) : Type 0 where
  pub name : t.name ≡ entry.name
  pub length_m : t.length_m ≡ entry.length_m
  pub speed_kmh : t.speed_kmh ≡ entry.speed_kmh
  pub from : IsNode p entry.from t.from
  pub to : IsNode p entry.to t.to
  pub entry_s : t.entry_s ≡ entry.entry_s
  pub arrive_s : t.arrive_s ≡ entry.arrive_s
  pub entry_until_s : t.entry_until_s ≡ entry.entry_until_s
  pub stops : AllZip (IsStopFor p) entry.stops t.stops

-- the timetable of the entries
pub record IsTimetableFor (p : NetParts) (entries : Entries) (t : Timetable) : Type 0 where
  pub space_step_m : t.space_step_m ≡ entries.space_step_m
  pub time_step_s : t.time_step_s ≡ entries.time_step_s
  pub horizon_s : t.horizon_s ≡ entries.horizon_s
  pub trains : AllZip (IsTrainFor p) entries.trains t.trains

-- a place of the train isn't there; want of memory says nothing of it
abbrev pub IsMiss : NetParts → TrainEntry → Miss → Type 0
IsMiss p t Unknown = ¬ KnowsPlaces p t
IsMiss p t Memory = ⊤
