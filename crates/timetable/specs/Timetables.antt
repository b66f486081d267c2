-- What a timetable of a network keeps.
use Rattle.std.specs.Prelude.{◌≡◌, ◌<◌, ◌^◌, ℕ, List, All, Some, length, map, slice_get}
use Rattle.vss_lists.specs.Breaks.{HoldsOfEach}
use Rattle.vss_names.specs.Names.{IsName}
use Rattle.rail_net.specs.Rules.{HasNewName}
use Rattle.rail_net.specs.declared.parts.NetParts.{NetParts}
use Rattle.rail_net.specs.declared.parts.NodeKind.TheVariants as kind
use Rattle.timetable.specs.Ranges.{AreGoodSteps, IsGoodLength, IsGoodSpeed, IsGoodTime, IsGoodIfThere}
use Rattle.timetable.specs.declared.parts.StopPart.{StopPart}
use Rattle.timetable.specs.declared.parts.TrainPart.{TrainPart}
use Rattle.timetable.specs.declared.parts.Timetable.{Timetable}

-- the names of the trains
abbrev pub train_names : Timetable → List (List ℕ)
train_names t = map (λ train. train.name) t.trains

-- the node of that number is an end node
pub record IsEndNode (p : NetParts) (node : ℕ) : Type 0 where
  pub name : List ℕ
  pub is_node : slice_get p.nodes node ≡ Some (record { name = name; kind = kind.EndNode })

-- a stop at a station of the network, with times that are in their range
pub record IsStopOf (p : NetParts) (s : StopPart) : Type 0 where
  pub station : s.station < length p.stations
  pub from_s : IsGoodTime s.from_s
  pub until_s : IsGoodTime s.until_s
  pub dwell_s : IsGoodTime s.dwell_s

-- a train with a name, between end nodes of the network, with stops there, and with numbers that are in their ranges
pub record IsTrainOf (p : NetParts) (t : TrainPart) : Type 0 where
  pub name : IsName t.name
  pub from : IsEndNode p t.from
  pub to : IsEndNode p t.to
  pub length_m : IsGoodLength t.length_m
  pub speed_kmh : IsGoodSpeed t.speed_kmh
  pub entry_s : IsGoodTime t.entry_s
  pub arrive_s : IsGoodIfThere t.arrive_s
  pub entry_until_s : IsGoodIfThere t.entry_until_s
  pub few_stops : length t.stops < 2 ^ 32
  pub stops : All (IsStopOf p) t.stops

-- a timetable of the network: trains of it, with names that are all different, and steps that are in their ranges
pub record IsTimetable (p : NetParts) (t : Timetable) : Type 0 where
  pub few : length t.trains < 2 ^ 32
  pub steps : AreGoodSteps t.space_step_m t.time_step_s t.horizon_s
  pub trains : All (IsTrainOf p) t.trains
  pub new_names : HoldsOfEach (HasNewName (λ train. train.name) t.trains) t.trains
