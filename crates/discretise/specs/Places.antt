-- Places where a virtual border may stand: joints, by node, and then inner cuts, by track; which of them the network
-- keeps; and how people know them.
use Rattle.std.specs.Prelude.{◌≡◌, ◌+◌, ◌-◌, ◌*◌, ◌/◌, ℕ, if◌then◌else◌, List, [], ◌++◌, map, length, slice_index_or, slice_get, Some, Contains, All, true, Bool, IsTrue, ◌↔◌}
use Rattle.std.specs.List.{flat_map, range_with_len}
use Rattle.cell_net.specs.declared.ids.NodeId.{NodeId}
use Rattle.cell_net.specs.declared.ids.CandidateId.{CandidateId}
use Rattle.cell_net.specs.declared.labels.PlaceLabel.{PlaceLabel}
use Rattle.cell_net.specs.declared.labels.PlaceLabel.TheVariants as place
use Rattle.rail_net.specs.Parts.{IsNode, IsTrack, node_names}
use Rattle.rail_net.specs.Borders.{IsBorderJoint}
use Rattle.rail_net.specs.declared.parts.NodeKind.{NodeKind}
use Rattle.rail_net.specs.declared.parts.NodeKind.TheVariants.{Joint}
use Rattle.rail_net.specs.declared.parts.BorderPart.{BorderPart}
use Rattle.rail_net.specs.declared.parts.BorderPart.TheVariants as border
use Rattle.rail_net.specs.declared.parts.NetParts.{NetParts}
use Rattle.timetable.specs.declared.parts.Timetable.{Timetable}
use Rattle.discretise.specs.Cells.{node}
use Rattle.discretise.specs.Picks.{Picks}
use Rattle.discretise.specs.Tracks.{no_track}
use Rattle.discretise.specs.declared.tracks.GridTrack.{GridTrack}
use Rattle.discretise.specs.declared.ends.TrackEnd.{TrackEnd}

-- the node of that number is a joint where a border may stand
pub record IsFreeJoint (p : NetParts) (number : ℕ) : Type 0 where
  pub name : List ℕ
  pub is_node : IsNode p name number
  pub candidate : IsBorderJoint p name

-- the joints where a border may stand, by their numbers
abbrev pub AreFreeJoints : NetParts → List ℕ → Type 0
AreFreeJoints p joints = Picks (IsFreeJoint p) (range_with_len 0 (length p.nodes)) joints

-- the cuts of a track, and those where virtual borders may stand
abbrev pub cuts_in : GridTrack → List NodeId
cuts_in g = map (λ place. node (g.cut + place)) (range_with_len 0 (g.count - 1))

abbrev pub open_cuts : GridTrack → List NodeId
open_cuts g = if g.is_virtual then cuts_in g else []

-- the candidates
abbrev pub nodes_of_candidates : List ℕ → List GridTrack → List NodeId
nodes_of_candidates joints gs = map node joints ++ flat_map open_cuts gs

-- the names of these places: a joint has its own, and a cut is so many metres from where its track begins
abbrev pub joint_label : NetParts → ℕ → PlaceLabel
joint_label p number = place.Joint (slice_index_or (node_names p) number [])

abbrev pub cut_label : Timetable → GridTrack → ℕ → PlaceLabel
cut_label t g cut = place.Cut g.number ((cut + 1) * t.space_step_m)

abbrev pub labels_of_cuts : Timetable → GridTrack → List PlaceLabel
labels_of_cuts t g = map (cut_label t g) (range_with_len 0 (g.count - 1))

abbrev pub cut_labels : Timetable → GridTrack → List PlaceLabel
cut_labels t g = if g.is_virtual then labels_of_cuts t g else []

abbrev pub place_labels : NetParts → Timetable → List ℕ → List GridTrack → List PlaceLabel
place_labels p t joints gs = map (joint_label p) joints ++ flat_map (cut_labels t) gs

-- the track of an end
abbrev pub track_of : List GridTrack → TrackEnd → GridTrack
track_of gs e = slice_index_or gs e.track no_track

-- virtual borders may stand on the tracks of all these ends; these tracks are of that section; they are of one
abbrev pub AreOpenEnds : List GridTrack → List TrackEnd → Type 0
AreOpenEnds gs ends = All (λ e. (track_of gs e).is_virtual ≡ true) ends

abbrev pub AreOfSection : List GridTrack → ℕ → List TrackEnd → Type 0
AreOfSection gs section ends = All (λ e. (track_of gs e).section ≡ section) ends

unfoldable pub AreEndsOfOneSection : List GridTrack → List TrackEnd → Type 0
AreEndsOfOneSection gs ends = (section : ℕ) × AreOfSection gs section ends

-- a node of that kind with these ends of tracks is a joint where a border may stand
pub record AreFreeEnds (gs : List GridTrack) (kind : NodeKind) (ends : List TrackEnd) : Type 0 where
  pub joint : kind ≡ Joint
  pub are_open : AreOpenEnds gs ends
  pub one_section : AreEndsOfOneSection gs ends

-- the cut of the track of that name, so many metres from where it begins, is the node of that number
pub record IsCutAt (p : NetParts) (t : Timetable) (gs : List GridTrack) (track : List ℕ) (at_m number : ℕ) : Type 0 where
  pub g : GridTrack
  pub there : Contains gs g
  pub named : IsTrack p track g.number
  pub at : number + 1 ≡ g.cut + at_m / t.space_step_m

-- the border stands at the node of that number
abbrev pub StandsAtNode : NetParts → Timetable → List GridTrack → BorderPart → ℕ → Type 0
StandsAtNode p t gs (border.Cut track at_m) number = IsCutAt p t gs track at_m number
StandsAtNode p t gs (border.Joint name) number = IsNode p name number

-- one of these borders stands at the node of that number
pub record IsNodeOfOne (p : NetParts) (t : Timetable) (gs : List GridTrack) (parts : List BorderPart) (number : ℕ) : Type 0 where
  pub part : BorderPart
  pub listed : Contains parts part
  pub stands : StandsAtNode p t gs part number

-- a border of the network stands at the candidate of that number
pub record IsKeptPlace (p : NetParts) (t : Timetable) (gs : List GridTrack) (candidates : List NodeId) (number : ℕ) : Type 0 where
  pub place : NodeId
  pub is_there : slice_get candidates number ≡ Some place
  pub kept : IsNodeOfOne p t gs p.borders place.0

abbrev pub candidate : ℕ → CandidateId
candidate number = record { 0 = number }

-- the candidates where a border of the network stands
pub record AreKeptPlaces (p : NetParts) (t : Timetable) (gs : List GridTrack) (candidates : List NodeId) (kept : List CandidateId) : Type 0 where
  pub numbers : List ℕ
  pub picked : Picks (IsKeptPlace p t gs candidates) (range_with_len 0 (length candidates)) numbers
  pub are : kept ≡ map candidate numbers

-- the nodes, so many, where one of these borders stands are marked
pub record AreMarkedFor (p : NetParts) (t : Timetable) (gs : List GridTrack) (parts : List BorderPart) (nodes : ℕ) (marks : List Bool) : Type 0 where
  pub count : length marks ≡ nodes
  pub each : (k : ℕ) (mark : Bool) → slice_get marks k ≡ Some mark → IsTrue mark ↔ IsNodeOfOne p t gs parts k
