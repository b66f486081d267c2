-- What is kept of a network's names, ends and listings by numbers.
use Rattle.std.specs.Prelude.{◌≡◌, ◌↔◌, ◌+◌, ◌++◌, ℕ, Bool, false, if◌then◌else◌, List, [], ◌∷◌, map, Some, length, slice_get, slice_index, count_by, bytes_eq, ⊤}
use Rattle.node_groups.specs.declared.segments.Segment.{Segment}
use Rattle.rail_net.specs.Parts.{IsNode, IsTrack, IsTrackOfSection, Stated, stated_by, listings, node_names, track_names, station_names}
use Rattle.rail_net.specs.Rules.{begin_count, end_count}
use Rattle.rail_net.specs.Sections.{IsOfOneSection, HangsTogether}
use Rattle.rail_net.specs.Borders.{IsFree}
use Rattle.rail_net.specs.Refusals.{HasNewNodes, HasNewTracks}
use Rattle.rail_net.specs.declared.entries.Entry.{Entry}
use Rattle.rail_net.specs.declared.ends.TrackEnds.{TrackEnds}
use Rattle.rail_net.specs.declared.parts.TrackPart.{TrackPart}
use Rattle.rail_net.specs.declared.parts.NetParts.{NetParts}
use Rattle.rail_net.specs.declared.tables.NetIndex.{NetIndex}
use Rattle.rail_net.specs.declared.tables.NetNames.{NetNames}

-- the names of the parts, in their order
pub record AreNamesOf (p : NetParts) (names : NetNames) : Type 0 where
  pub nodes : names.nodes ≡ node_names p
  pub tracks : names.tracks ≡ track_names p
  pub stations : names.stations ≡ station_names p

-- the numbers of the nodes of a track
pub record AreNodes (nodes : List (List ℕ)) (t : TrackPart) (e : TrackEnds) : Type 0 where
  pub from : slice_get nodes e.from ≡ Some t.from
  pub to : slice_get nodes e.to ≡ Some t.to

-- the numbers of the nodes of each track
pub record AreTrackEnds (p : NetParts) (ends : List TrackEnds) : Type 0 where
  pub count : length ends ≡ length p.tracks
  pub each : (k : ℕ) (t : TrackPart) (e : TrackEnds) → slice_get p.tracks k ≡ Some t → slice_get ends k ≡ Some e → AreNodes (node_names p) t e

-- each name that is stated has its number as key, and the item that states it as value
abbrev pub Numbers : List (List ℕ) → List Stated → List Entry → Type 0
Numbers names [] [] = ⊤
Numbers names [] (e ∷ es) = ⊥
Numbers names (s ∷ ss) [] = ⊥
Numbers names (s ∷ ss) (e ∷ es) = (slice_get names e.key ≡ Some s.name) × (e.value ≡ s.item) × Numbers names ss es

-- a track that a section lists is an entry under the track's number, with that of the section
unfoldable pub AreListings : NetParts → List Entry → Type 0
AreListings p entries = Numbers (track_names p) (listings p) entries

-- the tracks of these names, listed by that section, go behind the old entries
unfoldable pub AddsListings : List (List ℕ) → ℕ → List (List ℕ) → List Entry → List Entry → Type 0
AddsListings tracks section names old new =
    (added : List Entry) × (new ≡ old ++ added) × Numbers tracks (stated_by section names) added

-- the section of each track
pub record AreHomes (p : NetParts) (homes : List ℕ) : Type 0 where
  pub count : length homes ≡ length p.tracks
  pub each : (track section : ℕ) → slice_get homes track ≡ Some section → IsTrackOfSection p section track

-- what two lists give in pairs
abbrev pub zipped : {X Y Z : Type 0} → (X → Y → Z) → List X → List Y → List Z
zipped f [] ys = []
zipped f (x ∷ xs) [] = []
zipped f (x ∷ xs) (y ∷ ys) = f x y ∷ zipped f xs ys

-- what two lists give in pairs, each pair a list
abbrev pub joined_pairs : {X Y Z : Type 0} → (X → Y → List Z) → List X → List Y → List Z
joined_pairs f [] ys = []
joined_pairs f (x ∷ xs) [] = []
joined_pairs f (x ∷ xs) (y ∷ ys) = f x y ++ joined_pairs f xs ys

-- an entry
abbrev pub under : ℕ → ℕ → Entry
under key value = record { key = key; value = value }

-- each value under the key at its place
abbrev pub paired : List ℕ → List ℕ → List Entry
paired keys values = zipped under keys values

-- each track's value, under both its nodes
abbrev pub under_both : TrackEnds → ℕ → List Entry
under_both e value = under e.from value ∷ under e.to value ∷ []

abbrev pub spread : List TrackEnds → List ℕ → List Entry
spread ends values = joined_pairs under_both ends values

-- 1 for a track where no virtual border may stand, and else 0
abbrev pub border_flag : TrackPart → ℕ
border_flag t = if t.virtual_ok then 0 else 1

abbrev pub flags_of : List TrackPart → List ℕ
flags_of ts = map border_flag ts

-- each track as a segment of its section, between the numbers of its nodes
abbrev pub track_segment : TrackEnds → ℕ → Segment
track_segment e home = record { low = e.from; high = e.to; part = home }

abbrev pub segments_from : List TrackEnds → List ℕ → List Segment
segments_from ends homes = zipped track_segment ends homes

-- how many tracks begin and end at each node
pub record AreDegrees (p : NetParts) (begins ends : List ℕ) : Type 0 where
  pub begin_len : length begins ≡ length p.nodes
  pub end_len : length ends ≡ length p.nodes
  pub at_node : (node : ℕ) (name : List ℕ) → IsNode p name node
      → slice_index begins node + slice_index ends node ≡ begin_count p name + end_count p name

-- how many listings name each track
pub record AreListingCounts (p : NetParts) (counts : List ℕ) : Type 0 where
  pub len : length counts ≡ length p.tracks
  pub at_track : (track : ℕ) (name : List ℕ) → IsTrack p name track
      → slice_index counts track ≡ count_by (λ l. bytes_eq l.name name) (listings p)

-- the nodes whose tracks are of different sections are marked
pub record AreSplits (p : NetParts) (marks : List Bool) : Type 0 where
  pub len : length marks ≡ length p.nodes
  pub at_node : (node : ℕ) (name : List ℕ) (mark : Bool) → IsNode p name node → slice_get marks node ≡ Some mark
      → (mark ≡ false) ↔ IsOfOneSection p name

-- the nodes where a track ends on which no virtual border may stand are marked
pub record AreBars (p : NetParts) (marks : List Bool) : Type 0 where
  pub len : length marks ≡ length p.nodes
  pub at_node : (node : ℕ) (name : List ℕ) (mark : Bool) → IsNode p name node → slice_get marks node ≡ Some mark
      → (mark ≡ false) ↔ IsFree p name

-- the sections that fall apart are marked
pub record AreMarkedApart (p : NetParts) (marks : List Bool) : Type 0 where
  pub len : length marks ≡ length p.sections
  pub at_section : (section : ℕ) (mark : Bool) → slice_get marks section ≡ Some mark
      → (mark ≡ false) ↔ HangsTogether p section

-- what tells whether borders stand well
pub record AreStands (p : NetParts) (index : NetNames) (split barred : List Bool) : Type 0 where
  pub names : AreNamesOf p index
  pub new_nodes : HasNewNodes p
  pub new_tracks : HasNewTracks p
  pub splits : AreSplits p split
  pub bars : AreBars p barred

-- the value 0 under a key
abbrev pub zero_under : ℕ → Entry
zero_under key = under key 0

-- the names and the homes of the parts
pub record IsIndexOf (p : NetParts) (index : NetIndex) : Type 0 where
  pub names : AreNamesOf p index.names
  pub homes : AreHomes p index.homes.items
