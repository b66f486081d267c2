-- Parts: whether the segments of a part are connected, and the first part that falls apart.
use Rattle.std.specs.Prelude.{◌≡◌, ℕ, ◌<◌, List, [], Option, Some, MatchOption, slice_get, slice_index, Contains}
use Rattle.node_groups.specs.declared.ends.End.{End}
use Rattle.node_groups.specs.declared.segments.Segment.{Segment}
use Rattle.node_groups.specs.Reach.{Reaches}
use Rattle.node_groups.specs.Touch.{Touch}

-- the segment at this place of the list is of the part
pub record IsOfPart (segments : List Segment) (part place : ℕ) : Type 0 where
  pub segment : Segment
  pub is : slice_get segments place ≡ Some segment
  pub of_part : segment.part ≡ part

-- any two segments of the part reach each other, where no node is a barrier
abbrev pub IsConnectedPart : List Segment → ℕ → Type 0
IsConnectedPart segments part =
    (i j : ℕ) → IsOfPart segments part i → IsOfPart segments part j → Reaches (Touch segments []) i j

-- the part is the lowest of which the rule doesn't hold
pub record IsLowestWhereNot (holds : ℕ → Type 0) (part : ℕ) : Type 0 where
  pub fails : ¬ holds part
  pub before : (lower : ℕ) → lower < part → holds lower

-- no part where the rule holds of every one, and else the lowest where it doesn't
abbrev pub Finds : (ℕ → Type 0) → Option ℕ → Type 0
Finds holds answer = MatchOption answer ((part : ℕ) → holds part) (IsLowestWhereNot holds)

-- the ends of the part stand at places of one group
unfoldable pub HasOneGroup : List End → List ℕ → ℕ → Type 0
HasOneGroup ends groups part =
    (e f : End) → Contains ends e → Contains ends f → e.part ≡ part → f.part ≡ part → slice_index groups e.place ≡ slice_index groups f.place
