-- The rules on borders: where a border may stand.
use Rattle.std.specs.Prelude.{◌≡◌, ◌<◌, ℕ, List, true, Contains, Some, slice_get}
use Rattle.rail_net.specs.Parts.{EndsAt}
use Rattle.rail_net.specs.Rules.{IsNodeName, IsTrackName}
use Rattle.rail_net.specs.Sections.{IsOfOneSection}
use Rattle.rail_net.specs.declared.parts.NodeKind.TheVariants as kind
use Rattle.rail_net.specs.declared.parts.TrackPart.{TrackPart}
use Rattle.rail_net.specs.declared.parts.BorderPart.{BorderPart}
use Rattle.rail_net.specs.declared.parts.BorderPart.TheVariants.{Cut, Joint}
use Rattle.rail_net.specs.declared.parts.NetParts.{NetParts}

-- the track or the node that a border names is there
abbrev pub NamesKnown : NetParts → BorderPart → Type 0
NamesKnown p (Cut track at_m) = IsTrackName p track
NamesKnown p (Joint name) = IsNodeName p name

abbrev pub IsKnownBorder : NetParts → ℕ → BorderPart → Type 0
IsKnownBorder p place b = NamesKnown p b

-- a track of that name where virtual borders may stand, with the place between its ends
pub record IsWithinTrack (p : NetParts) (name : List ℕ) (at_m : ℕ) : Type 0 where
  pub track : TrackPart
  pub is_there : Contains p.tracks track
  pub named : track.name ≡ name
  pub past_start : 0 < at_m
  pub before_end : at_m < track.length_m
  pub is_virtual : track.virtual_ok ≡ true

-- the kind of the node of that name is joint
unfoldable pub IsJoint : NetParts → List ℕ → Type 0
IsJoint p name = Contains p.nodes (record { name = name; kind = kind.Joint })

-- virtual borders may stand on each track with an end at the node
unfoldable pub IsFree : NetParts → List ℕ → Type 0
IsFree p node =
    (k : ℕ) (track : TrackPart) → EndsAt p node k → slice_get p.tracks k ≡ Some track → track.virtual_ok ≡ true

-- a joint where a border may stand: its tracks are of one section, and virtual borders may stand on them
pub record IsBorderJoint (p : NetParts) (name : List ℕ) : Type 0 where
  pub joint : IsJoint p name
  pub one_section : IsOfOneSection p name
  pub free : IsFree p name

-- a border may stand there
abbrev pub StandsWell : NetParts → BorderPart → Type 0
StandsWell p (Cut track at_m) = IsWithinTrack p track at_m
StandsWell p (Joint name) = IsBorderJoint p name

abbrev pub IsGoodBorder : NetParts → ℕ → BorderPart → Type 0
IsGoodBorder p place b = StandsWell p b
