-- Touch: segments of one part that share a node.
use Rattle.std.specs.Prelude.{◌≡◌, ℕ, ◌⊎◌, List, Contains, Some, slice_get}
use Rattle.node_groups.specs.declared.segments.Segment.{Segment}

-- the node is an end of the segment
abbrev pub HasEnd : Segment → ℕ → Type 0
HasEnd s node = (s.low ≡ node) ⊎ (s.high ≡ node)

-- the segments at places i and j of the list are of one part, and share a node that is no barrier
pub record Touch (segments : List Segment) (barriers : List ℕ) (i j : ℕ) : Type 0 where
  pub first : Segment
  pub second : Segment
  pub at_first : slice_get segments i ≡ Some first
  pub at_second : slice_get segments j ≡ Some second
  pub one_part : first.part ≡ second.part
  pub node : ℕ
  pub end_of_first : HasEnd first node
  pub end_of_second : HasEnd second node
  pub no_barrier : ¬ Contains barriers node
