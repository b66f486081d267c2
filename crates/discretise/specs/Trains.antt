-- Trains and their stops, in cells and steps.
use Rattle.std.specs.Prelude.{◌≡◌, ◌<◌, ◌≤◌, List, [], ◌∷◌, map, length, slice_index_or, All}
use Rattle.cell_net.specs.Space.{head_of, tail_of}
use Rattle.cell_net.specs.declared.cells.CellEnd.{CellEnd}
use Rattle.cell_net.specs.declared.trains.StopSpec.{StopSpec}
use Rattle.cell_net.specs.declared.trains.TrainSpec.{TrainSpec}
use Rattle.timetable.specs.Ranges.{IsGoodTime}
use Rattle.timetable.specs.declared.parts.StopPart.{StopPart}
use Rattle.timetable.specs.declared.parts.TrainPart.{TrainPart}
use Rattle.timetable.specs.declared.parts.Timetable.{Timetable}
use Rattle.discretise.specs.Rounding.{advance_of, length_in_cells, dwell_steps, last_step, latest_entry, step_from, steps_until}
use Rattle.discretise.specs.Joins.{ends_at}
use Rattle.discretise.specs.declared.tracks.GridTrack.{GridTrack}
use Rattle.discretise.specs.declared.ends.TrackEnd.{TrackEnd}

-- just one end of a track; its cell end
abbrev pub HasOneEnd : List TrackEnd → Type 0
HasOneEnd ends = length ends ≡ 1

pub record IsOneEnd (ends : List TrackEnd) (its_end : CellEnd) : Type 0 where
  pub its : TrackEnd
  pub only : ends ≡ its ∷ []
  pub is : its.end ≡ its_end

-- a stop in steps
abbrev pub stop_of : Timetable → StopPart → StopSpec
stop_of t s = record {
  station = record { 0 = s.station };
  from = step_from t s.from_s;
  until = steps_until t s.until_s;
  dwell = dwell_steps t s.dwell_s;
}

-- a train in cells and steps, where these are the ends of tracks at its first and its last node: it enters heading away
-- from its first node, and leaves heading towards its last
pub record IsTrainOver (from_ends to_ends : List TrackEnd) (t : Timetable) (x : TrainPart) (s : TrainSpec) : Type 0 where
  pub its_length : s.length ≡ length_in_cells t x.length_m
  pub advance : s.advance ≡ advance_of t x.speed_kmh
  pub entry : IsOneEnd from_ends (tail_of s.entry)
  pub goal : IsOneEnd to_ends (head_of s.goal)
  pub start : s.start ≡ step_from t x.entry_s
  pub latest : s.latest ≡ latest_entry t s.start s.by x.entry_until_s
  pub by : s.by ≡ last_step t x.arrive_s
  pub stops : s.stops ≡ map (stop_of t) x.stops

abbrev pub IsGridTrain : List GridTrack → Timetable → TrainPart → TrainSpec → Type 0
IsGridTrain gs t x s = IsTrainOver (ends_at gs x.from) (ends_at gs x.to) t x s

-- the same, where the ends at each node are these
abbrev pub IsTrainBetween : List (List TrackEnd) → Timetable → TrainPart → TrainSpec → Type 0
IsTrainBetween rows t x s = IsTrainOver (slice_index_or rows x.from []) (slice_index_or rows x.to []) t x s

-- one end of a track stands at each of the train's nodes
pub record HasItsEnds (rows : List (List TrackEnd)) (x : TrainPart) : Type 0 where
  pub from_within : x.from < length rows
  pub to_within : x.to < length rows
  pub from : HasOneEnd (slice_index_or rows x.from [])
  pub to : HasOneEnd (slice_index_or rows x.to [])

-- the times of a stop are in their range
pub record IsShortStop (s : StopPart) : Type 0 where
  pub from_s : IsGoodTime s.from_s
  pub until_s : IsGoodTime s.until_s
  pub dwell_s : IsGoodTime s.dwell_s

-- the speed of a train, and the times of its stops, are in their ranges
pub record HasShortStops (x : TrainPart) : Type 0 where
  pub speed : x.speed_kmh ≤ 500
  pub stops : All IsShortStop x.stops
