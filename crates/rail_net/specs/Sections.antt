-- The rules on sections.
use Rattle.std.specs.Prelude.{◌≡◌, ℕ, List, ⊤}
use Rattle.node_groups.specs.Reach.{Reaches}
use Rattle.rail_net.specs.Parts.{EndsAt, IsTrackOfSection}
use Rattle.rail_net.specs.declared.parts.NodeKind.{NodeKind}
use Rattle.rail_net.specs.declared.parts.NodeKind.TheVariants.{EndNode, Joint, Point, Crossing}
use Rattle.rail_net.specs.declared.parts.NodePart.{NodePart}
use Rattle.rail_net.specs.declared.parts.GroupPart.{GroupPart}
use Rattle.rail_net.specs.declared.parts.NetParts.{NetParts}

-- all tracks with an end at the node of that name are of one section
unfoldable pub IsOfOneSection : NetParts → List ℕ → Type 0
IsOfOneSection p node =
    (track other section its : ℕ) → EndsAt p node track → EndsAt p node other
    → IsTrackOfSection p section track → IsTrackOfSection p its other → section ≡ its

-- the tracks at a point or a crossing are of one section
abbrev pub IsOneSection : NetParts → List ℕ → NodeKind → Type 0
IsOneSection p node EndNode = ⊤
IsOneSection p node Joint = ⊤
IsOneSection p node (Point tip) = IsOfOneSection p node
IsOneSection p node (Crossing first second) = IsOfOneSection p node

abbrev pub IsWholeNode : NetParts → ℕ → NodePart → Type 0
IsWholeNode p place n = IsOneSection p n.name n.kind

-- two tracks of one section share a node
pub record Adjoin (p : NetParts) (track other : ℕ) : Type 0 where
  pub section : ℕ
  pub node : List ℕ
  pub in_section : IsTrackOfSection p section track
  pub also : IsTrackOfSection p section other
  pub at_node : EndsAt p node track
  pub too : EndsAt p node other

-- from each track of the section each other is reached over shared nodes
unfoldable pub HangsTogether : NetParts → ℕ → Type 0
HangsTogether p section =
    (track other : ℕ) → IsTrackOfSection p section track → IsTrackOfSection p section other → Reaches (Adjoin p) track other

abbrev pub IsConnectedSection : NetParts → ℕ → GroupPart → Type 0
IsConnectedSection p place s = HangsTogether p place
