-- The words of refusals in printed lines: their kinds and places.
use Rattle.std.specs.Prelude.{ℕ, List, codes}
use Rattle.rail_net.specs.declared.refusal.ListKind.{ListKind}
use Rattle.rail_net.specs.declared.refusal.ListKind.TheVariants as list
use Rattle.net_reader.specs.declared.member.Member.{Member}
use Rattle.net_reader.specs.declared.member.Member.TheVariants as net_member
use Rattle.rail_net.specs.declared.refusal.NetFault.{NetFault}
use Rattle.rail_net.specs.declared.refusal.NetFault.TheVariants as net_fault
use Rattle.timetable.specs.declared.refusal.TimeMember.{TimeMember}
use Rattle.timetable.specs.declared.refusal.TimeMember.TheVariants as time_member
use Rattle.timetable.specs.declared.refusal.TimeFault.{TimeFault}
use Rattle.timetable.specs.declared.refusal.TimeFault.TheVariants as time_fault
use Rattle.discretise.specs.declared.refusal.CutFault.{CutFault}
use Rattle.discretise.specs.declared.refusal.CutFault.TheVariants as cut_fault

-- the list of a place in a document
abbrev pub list_word : ListKind → List ℕ
list_word list.Document = codes "document"
list_word list.Nodes = codes "nodes"
list_word list.Tracks = codes "tracks"
list_word list.Sections = codes "sections"
list_word list.Borders = codes "borders"
list_word list.Stations = codes "stations"
list_word list.Trains = codes "trains"

-- a member of a network, by its path
abbrev pub net_member_word : Member → List ℕ
net_member_word net_member.Document = codes "document"
net_member_word net_member.Nodes = codes "nodes"
net_member_word net_member.NodesName = codes "nodes.name"
net_member_word net_member.NodesKind = codes "nodes.kind"
net_member_word net_member.NodesTip = codes "nodes.tip"
net_member_word net_member.NodesPairs = codes "nodes.pairs"
net_member_word net_member.Tracks = codes "tracks"
net_member_word net_member.TracksName = codes "tracks.name"
net_member_word net_member.TracksFrom = codes "tracks.from"
net_member_word net_member.TracksTo = codes "tracks.to"
net_member_word net_member.TracksLengthM = codes "tracks.length_m"
net_member_word net_member.TracksLimitKmh = codes "tracks.limit_kmh"
net_member_word net_member.TracksVirtual = codes "tracks.virtual"
net_member_word net_member.Sections = codes "sections"
net_member_word net_member.SectionsName = codes "sections.name"
net_member_word net_member.SectionsTracks = codes "sections.tracks"
net_member_word net_member.Borders = codes "borders"
net_member_word net_member.BordersTrack = codes "borders.track"
net_member_word net_member.BordersAtM = codes "borders.at_m"
net_member_word net_member.BordersJoint = codes "borders.joint"
net_member_word net_member.Stations = codes "stations"
net_member_word net_member.StationsName = codes "stations.name"
net_member_word net_member.StationsTracks = codes "stations.tracks"

-- a rule of networks
abbrev pub net_fault_word : NetFault → List ℕ
net_fault_word net_fault.DuplicateName = codes "DuplicateName"
net_fault_word net_fault.UnknownName = codes "UnknownName"
net_fault_word net_fault.NodeDegree = codes "NodeDegree"
net_fault_word net_fault.TipNotHere = codes "TipNotHere"
net_fault_word net_fault.PairsNotHere = codes "PairsNotHere"
net_fault_word net_fault.LoopTrack = codes "LoopTrack"
net_fault_word net_fault.TrackInNoSection = codes "TrackInNoSection"
net_fault_word net_fault.TrackInTwoSections = codes "TrackInTwoSections"
net_fault_word net_fault.SplitSection = codes "SplitSection"
net_fault_word net_fault.SectionApart = codes "SectionApart"
net_fault_word net_fault.BorderPlace = codes "BorderPlace"
net_fault_word net_fault.LengthRange = codes "LengthRange"
net_fault_word net_fault.LimitRange = codes "LimitRange"

-- a member of a timetable, by its path
abbrev pub time_member_word : TimeMember → List ℕ
time_member_word time_member.Document = codes "document"
time_member_word time_member.SpaceStepM = codes "space_step_m"
time_member_word time_member.TimeStepS = codes "time_step_s"
time_member_word time_member.HorizonS = codes "horizon_s"
time_member_word time_member.Trains = codes "trains"
time_member_word time_member.TrainsName = codes "trains.name"
time_member_word time_member.TrainsLengthM = codes "trains.length_m"
time_member_word time_member.TrainsSpeedKmh = codes "trains.speed_kmh"
time_member_word time_member.TrainsEntryS = codes "trains.entry_s"
time_member_word time_member.TrainsFrom = codes "trains.from"
time_member_word time_member.TrainsTo = codes "trains.to"
time_member_word time_member.TrainsArriveS = codes "trains.arrive_s"
time_member_word time_member.TrainsEntryUntilS = codes "trains.entry_until_s"
time_member_word time_member.TrainsStops = codes "trains.stops"
time_member_word time_member.StopsStation = codes "trains.stops.station"
time_member_word time_member.StopsDwellS = codes "trains.stops.dwell_s"
time_member_word time_member.StopsFromS = codes "trains.stops.from_s"
time_member_word time_member.StopsUntilS = codes "trains.stops.until_s"

-- a rule of timetables
abbrev pub time_fault_word : TimeFault → List ℕ
time_fault_word time_fault.BadName = codes "BadName"
time_fault_word time_fault.ReverseNotYet = codes "ReverseNotYet"
time_fault_word time_fault.DuplicateName = codes "DuplicateName"
time_fault_word time_fault.UnknownName = codes "UnknownName"
time_fault_word time_fault.EndWanted = codes "EndWanted"
time_fault_word time_fault.StepRange = codes "StepRange"
time_fault_word time_fault.TrainRange = codes "TrainRange"

-- a rule of the grid
abbrev pub cut_fault_word : CutFault → List ℕ
cut_fault_word cut_fault.TooManyCells = codes "TooManyCells"
cut_fault_word cut_fault.TooManyCandidates = codes "TooManyCandidates"
cut_fault_word cut_fault.TooManyTrains = codes "TooManyTrains"
cut_fault_word cut_fault.TooManySteps = codes "TooManySteps"
cut_fault_word cut_fault.LimitTooLow = codes "LimitTooLow"
cut_fault_word cut_fault.BorderOffGrid = codes "BorderOffGrid"
cut_fault_word cut_fault.TooSlow = codes "TooSlow"
cut_fault_word cut_fault.StepTooCoarse = codes "StepTooCoarse"
cut_fault_word cut_fault.TrainTooLong = codes "TrainTooLong"
cut_fault_word cut_fault.EntryPastHorizon = codes "EntryPastHorizon"
cut_fault_word cut_fault.ArrivalBeforeEntry = codes "ArrivalBeforeEntry"
cut_fault_word cut_fault.WindowEmpty = codes "WindowEmpty"
cut_fault_word cut_fault.StopWindow = codes "StopWindow"
