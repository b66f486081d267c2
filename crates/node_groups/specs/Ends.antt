-- Ends: the two ends of each segment, their order, the ends at one node, and where ends meet.
use Rattle.std.specs.Prelude.{◌≡◌, ℕ, ◌+◌, ◌<◌, ◌≤◌, ◌⊎◌, ◌↔◌, List, [], ◌∷◌, All, Some, length, slice_get, Contains}
use Rattle.std.specs.List.{AllAdjacentBelow}
use Rattle.node_groups.specs.Touch.{HasEnd}
use Rattle.node_groups.specs.declared.segments.Segment.{Segment}
use Rattle.node_groups.specs.declared.ends.End.{End}

-- an end with these numbers
abbrev pub end_at : ℕ → ℕ → ℕ → End
end_at node part place = record { node = node; part = part; place = place }

-- both ends of each segment, where the first stands at this place
abbrev pub ends_from : ℕ → List Segment → List End
ends_from place [] = []
ends_from place (s ∷ rest) = end_at s.low s.part place ∷ end_at s.high s.part place ∷ ends_from (place + 1) rest

-- the end is one of the segment at its place
pub record IsEndIn (segments : List Segment) (e : End) : Type 0 where
  pub segment : Segment
  pub is : slice_get segments e.place ≡ Some segment
  pub part : segment.part ≡ e.part
  pub node : HasEnd segment e.node

-- the list holds the ends of the segments, and no other
pub record AreEndsOf (segments : List Segment) (ends : List End) : Type 0 where
  pub each : (e : End) → Contains ends e ↔ IsEndIn segments e

-- by node, and at a node by part
abbrev pub UpTo : End → End → Type 0
UpTo e f = (e.node < f.node) ⊎ ((e.node ≡ f.node) × (e.part ≤ f.part))

-- each end is up to the one after it
unfoldable pub IsInOrder : List End → Type 0
IsInOrder ends = AllAdjacentBelow UpTo ends (length ends)

-- the stretch holds the ends at the node, and no other
pub record IsStretchAt (ends : List End) (node : ℕ) (stretch : List End) : Type 0 where
  pub here : All (λ e. e.node ≡ node) stretch
  pub some : (e : End) → Contains stretch e → Contains ends e
  pub all : (e : End) → Contains ends e → e.node ≡ node → Contains stretch e

-- two ends stand at one node of one part, which is none of the barriers
pub record MeetAt (barriers : List ℕ) (e f : End) : Type 0 where
  pub one_part : e.part ≡ f.part
  pub one_node : e.node ≡ f.node
  pub free : ¬ Contains barriers e.node

-- the places of two ends of the list that meet
unfoldable pub Shares : List End → List ℕ → ℕ → ℕ → Type 0
Shares ends barriers i j =
    (e : End) × (f : End) × Contains ends e × Contains ends f × (e.place ≡ i) × (f.place ≡ j) × MeetAt barriers e f
