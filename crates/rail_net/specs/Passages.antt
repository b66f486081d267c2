-- Passages: which tracks at a node a train can go between.
use Rattle.std.specs.Prelude.{◌≡◌, ◌≢◌, ◌⊎◌, ℕ, List, Some, slice_get}
use Rattle.rail_net.specs.Parts.{EndsAt, IsNode, IsTrack}
use Rattle.rail_net.specs.declared.parts.NodeKind.{NodeKind}
use Rattle.rail_net.specs.declared.parts.NodeKind.TheVariants.{EndNode, Joint, Point, Crossing}
use Rattle.rail_net.specs.declared.parts.NodePart.{NodePart}
use Rattle.rail_net.specs.declared.parts.NetParts.{NetParts}

-- the two names are those of the pair, in either order
abbrev pub ArePair : List ℕ × List ℕ → List ℕ → List ℕ → Type 0
ArePair pair one other =
    ((one ≡ pair.0) × (other ≡ pair.1)) ⊎ ((one ≡ pair.1) × (other ≡ pair.0))

-- over a node of that kind a passage leads between two different tracks of these names: none at an end
-- node; at a joint one; at a point between the tip and each leg, and none from leg to leg; at a crossing
-- within each pair
abbrev pub LeadsOver : NodeKind → List ℕ → List ℕ → Type 0
LeadsOver EndNode one other = ⊥
LeadsOver Joint one other = one ≢ other
LeadsOver (Point tip) one other = (one ≢ other) × ((one ≡ tip) ⊎ (other ≡ tip))
LeadsOver (Crossing first second) one other = ArePair first one other ⊎ ArePair second one other

-- a passage leads over the node between the two tracks, by their numbers
pub record HasPassage (p : NetParts) (node one other : ℕ) : Type 0 where
  pub part : NodePart
  pub first : List ℕ
  pub second : List ℕ
  pub is_node : slice_get p.nodes node ≡ Some part
  pub is_first : IsTrack p first one
  pub is_second : IsTrack p second other
  pub leads : LeadsOver part.kind first second

-- the track of that number has an end at the node of that number
pub record IsAtNode (p : NetParts) (node track : ℕ) : Type 0 where
  pub name : List ℕ
  pub is_node : IsNode p name node
  pub ends : EndsAt p name track
