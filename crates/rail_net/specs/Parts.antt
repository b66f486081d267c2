-- Names in a network, the ends of its tracks, and which section lists which track.
use Rattle.std.specs.Prelude.{◌≡◌, ◌<◌, ◌+◌, ◌^◌, ◌⊎◌, ℕ, List, [], ◌∷◌, ◌++◌, length, map, All, Contains, Some, slice_get}
use Rattle.vss_names.specs.Names.{IsName}
use Rattle.rail_net.specs.declared.parts.TrackPart.{TrackPart}
use Rattle.rail_net.specs.declared.parts.GroupPart.{GroupPart}
use Rattle.rail_net.specs.declared.parts.NetParts.{NetParts}

-- the names of the nodes, of the tracks, of the sections, of the stations
abbrev pub node_names : NetParts → List (List ℕ)
node_names p = map (λ n. n.name) p.nodes

abbrev pub track_names : NetParts → List (List ℕ)
track_names p = map (λ t. t.name) p.tracks

abbrev pub section_names : NetParts → List (List ℕ)
section_names p = map (λ s. s.name) p.sections

abbrev pub station_names : NetParts → List (List ℕ)
station_names p = map (λ s. s.name) p.stations

-- the node, the track of that number has this name
abbrev pub IsNode : NetParts → List ℕ → ℕ → Type 0
IsNode p name node = slice_get (node_names p) node ≡ Some name

abbrev pub IsTrack : NetParts → List ℕ → ℕ → Type 0
IsTrack p name track = slice_get (track_names p) track ≡ Some name

abbrev pub IsStation : NetParts → List ℕ → ℕ → Type 0
IsStation p name station = slice_get (station_names p) station ≡ Some name

-- a name with the number of the item that states it
pub record Stated : Type 0 where
  pub name : List ℕ
  pub item : ℕ

-- the names of a list, each stated by the same item
abbrev pub stated_by : ℕ → List (List ℕ) → List Stated
stated_by item [] = []
stated_by item (name ∷ names) = record { name = name; item = item } ∷ stated_by item names

-- the tracks that sections list, the first of which has that number: each as its name, stated by the section
abbrev pub listings_from : ℕ → List GroupPart → List Stated
listings_from section [] = []
listings_from section (s ∷ ss) = stated_by section s.tracks ++ listings_from (section + 1) ss

abbrev pub listings : NetParts → List Stated
listings p = listings_from 0 p.sections

-- the track of that number begins or ends at the node of that name
pub record EndsAt (p : NetParts) (node : List ℕ) (track : ℕ) : Type 0 where
  pub part : TrackPart
  pub is_track : slice_get p.tracks track ≡ Some part
  pub at_end : (part.from ≡ node) ⊎ (part.to ≡ node)

-- the section of that number lists the track of that name
pub record Lists (p : NetParts) (section : ℕ) (name : List ℕ) : Type 0 where
  pub part : GroupPart
  pub is_section : slice_get p.sections section ≡ Some part
  pub listed : Contains part.tracks name

-- the track of that number is of the section of that number
pub record IsTrackOfSection (p : NetParts) (section track : ℕ) : Type 0 where
  pub name : List ℕ
  pub is_track : IsTrack p name track
  pub listed : Lists p section name

-- each list has fewer than 4,294,967,296 items
pub record HasFewItems (p : NetParts) : Type 0 where
  pub nodes : length p.nodes < 2 ^ 32
  pub tracks : length p.tracks < 2 ^ 32
  pub sections : length p.sections < 2 ^ 32
  pub borders : length p.borders < 2 ^ 32
  pub stations : length p.stations < 2 ^ 32
  pub in_sections : All (λ s. length s.tracks < 2 ^ 32) p.sections
  pub in_stations : All (λ s. length s.tracks < 2 ^ 32) p.stations

-- names are names, and each section and each station lists a track
pub record AreNamed (p : NetParts) : Type 0 where
  pub nodes : All IsName (node_names p)
  pub tracks : All IsName (track_names p)
  pub sections : All IsName (section_names p)
  pub stations : All IsName (station_names p)
  pub section_tracks : All (λ s. 0 < length s.tracks) p.sections
  pub station_tracks : All (λ s. 0 < length s.tracks) p.stations
