-- Network documents: what their values are read as, member by member.
use Rattle.std.specs.Prelude.{◌<◌, ◌^◌, ℕ, List, All, length, unwrap_or, is_some, true, if◌then◌else◌, Ok, Err, codes, bytes_eq}
use Rattle.vss_json.specs.Values.{Json, member}
use Rattle.vss_json.specs.Readings.{Reading, ◌>>=◌, object, text, number, optional_number, optional_flag, texts, pairs, list, optional_list}
use Rattle.vss_json.specs.declared.fault.ShapeFault.{ShapeFault}
use Rattle.rail_net.specs.Parts.{HasFewItems}
use Rattle.rail_net.specs.declared.parts.NodeKind.{NodeKind}
use Rattle.rail_net.specs.declared.parts.NodeKind.TheVariants as kind
use Rattle.rail_net.specs.declared.parts.NodePart.{NodePart}
use Rattle.rail_net.specs.declared.parts.TrackPart.{TrackPart}
use Rattle.rail_net.specs.declared.parts.GroupPart.{GroupPart}
use Rattle.rail_net.specs.declared.parts.BorderPart.{BorderPart}
use Rattle.rail_net.specs.declared.parts.BorderPart.TheVariants as border
use Rattle.rail_net.specs.declared.parts.NetParts.{NetParts}
use Rattle.net_reader.specs.declared.member.Member.{Member}
use Rattle.net_reader.specs.declared.member.Member.TheVariants.{Document, Nodes, NodesName, NodesKind, NodesTip, NodesPairs, Tracks, TracksName, TracksFrom, TracksTo, TracksLengthM, TracksLimitKmh, TracksVirtual, Sections, SectionsName, SectionsTracks, Borders, BordersTrack, BordersAtM, BordersJoint, Stations, StationsName, StationsTracks}

-- the member is missing or isn't what it has to be, in that item of its list
abbrev pub at_item : Member → ℕ → ShapeFault Member
at_item member item = record { member = member; item = item }

-- the kind of that word, with what it names
unfoldable pub kind_of : ℕ → List ℕ → Json → Reading NodeKind Member
kind_of i word d =
    if bytes_eq word (codes "end") then Ok kind.EndNode
    else if bytes_eq word (codes "joint") then Ok kind.Joint
    else if bytes_eq word (codes "point") then text (at_item NodesTip i) (codes "tip") d >>= (λ tip. Ok (kind.Point tip))
    else if bytes_eq word (codes "crossing") then pairs (at_item NodesPairs i) (codes "pairs") d >>= (λ two. Ok (kind.Crossing two.0 two.1))
    else Err (at_item NodesKind i)

-- a node
unfoldable pub node_part : ℕ → Json → Reading NodePart Member
node_part i d = do
  is_object ← object (at_item Nodes i) d
  name ← text (at_item NodesName i) (codes "name") d
  word ← text (at_item NodesKind i) (codes "kind") d
  kind ← kind_of i word d
  Ok (record { name = name; kind = kind })

-- a track; virtual borders may stand on it where nothing else is said
unfoldable pub track_at : ℕ → Json → Reading TrackPart Member
track_at i d = do
  is_object ← object (at_item Tracks i) d
  name ← text (at_item TracksName i) (codes "name") d
  from ← text (at_item TracksFrom i) (codes "from") d
  to ← text (at_item TracksTo i) (codes "to") d
  length_m ← number (at_item TracksLengthM i) (codes "length_m") d
  limit_kmh ← optional_number (at_item TracksLimitKmh i) (codes "limit_kmh") d
  flag ← optional_flag (at_item TracksVirtual i) (codes "virtual") d
  Ok (record { name = name; from = from; to = to; length_m = length_m; limit_kmh = limit_kmh; virtual_ok = unwrap_or flag true })

-- tracks with a name, by the members of their list
unfoldable pub group_at : Member → Member → Member → ℕ → Json → Reading GroupPart Member
group_at group name tracks i d = do
  is_object ← object (at_item group i) d
  its_name ← text (at_item name i) (codes "name") d
  its_tracks ← texts (at_item tracks i) (codes "tracks") d
  Ok (record { name = its_name; tracks = its_tracks })

abbrev pub section_at : ℕ → Json → Reading GroupPart Member
section_at = group_at Sections SectionsName SectionsTracks

abbrev pub station_at : ℕ → Json → Reading GroupPart Member
station_at = group_at Stations StationsName StationsTracks

-- a border; one with a member `joint` is at a joint, whatever else it has
unfoldable pub border_at : ℕ → Json → Reading BorderPart Member
border_at i d = do
  is_object ← object (at_item Borders i) d
  if is_some (member (codes "joint") d)
      then text (at_item BordersJoint i) (codes "joint") d >>= (λ name. Ok (border.Joint name))
      else text (at_item BordersTrack i) (codes "track") d >>= (λ track. number (at_item BordersAtM i) (codes "at_m") d >>= (λ at_m. Ok (border.Cut track at_m)))

-- the parts of a network document
unfoldable pub document : Json → Reading NetParts Member
document d = do
  is_object ← object (at_item Document 0) d
  nodes ← list (at_item Nodes 0) node_part (codes "nodes") d
  tracks ← list (at_item Tracks 0) track_at (codes "tracks") d
  sections ← list (at_item Sections 0) section_at (codes "sections") d
  borders ← optional_list (at_item Borders 0) border_at (codes "borders") d
  stations ← optional_list (at_item Stations 0) station_at (codes "stations") d
  Ok (record { nodes = nodes; tracks = tracks; sections = sections; borders = borders; stations = stations })

-- a section or a station lists a track, and fewer than 4,294,967,296
pub record ListsSome (g : GroupPart) : Type 0 where
  pub some : 0 < length g.tracks
  pub few : length g.tracks < 2 ^ 32

-- sections and stations list tracks, and each list has fewer than 4,294,967,296 items
pub record HasListed (p : NetParts) : Type 0 where
  pub sections : All ListsSome p.sections
  pub stations : All ListsSome p.stations
  pub few : HasFewItems p
